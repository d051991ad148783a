pub mod WorldViews
