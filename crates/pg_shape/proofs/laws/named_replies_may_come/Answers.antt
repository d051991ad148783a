use Rattle.pg_shape.proofs.OwnReplies.{reply_once, load_final_comes, out_final_comes, shared_final_comes, owner_final_comes}
use Rattle.pg_shape.proofs.laws.named_replies_may_come.Goals as goal

pub returns-clause-once : goal.returns-clause-once
returns-clause-once c = λ d s j k request event pairs p q x w h. reply_once d w h s j k request event pairs p q x

pub returns-clause-load : goal.returns-clause-load
returns-clause-load c = λ d s t name x w h. load_final_comes d w h s t name x

pub returns-clause-out : goal.returns-clause-out
returns-clause-out c = λ d s t name x w h. out_final_comes d w h s t name x

pub returns-clause-shared : goal.returns-clause-shared
returns-clause-shared c = λ d s t name x w h. shared_final_comes d w h s t name x

pub returns-clause-owner : goal.returns-clause-owner
returns-clause-owner c = λ d s t name x w h. owner_final_comes d w h s t name x
