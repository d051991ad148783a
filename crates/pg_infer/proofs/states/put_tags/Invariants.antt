use Rattle.std.proofs.Common.{◌≡◌, ◌++◌, take}
use Rattle.std.specs.Prelude.{map}
use Rattle.std.specs.List.{filter}
use Rattle.pg_table.specs.declared.cache.Desc.TheVariants.{Ask}
use Rattle.pg_infer.specs.Tags.{has_tag}
use Rattle.pg_infer.proofs.states.put_tags.Given as goal

abbrev pub invariant-loop-tag : goal.invariant-loop-tag
invariant-loop-tag l = l.states.items ≡ l.initial.states.items ++ map (λ t. Ask l.event l.start l.phase t) (filter (has_tag l.protocol l.mode l.start l.event) (take l.tag-index l.tags))
