use Rattle.pg_shape.proofs.NoneTwice.{out_once, shared_once, read_once, write_once, listed_once, core_once, take_once, row_once}
use Rattle.pg_shape.proofs.laws.nothing_stands_twice.Goals as goal

pub returns-clause-out : goal.returns-clause-out
returns-clause-out c = λ d s t h. out_once d h s t

pub returns-clause-shared : goal.returns-clause-shared
returns-clause-shared c = λ d s t h. shared_once d h s t

pub returns-clause-read : goal.returns-clause-read
returns-clause-read c = λ d m n h. read_once d h m n

pub returns-clause-write : goal.returns-clause-write
returns-clause-write c = λ d m n h. write_once d h m n

pub returns-clause-listed : goal.returns-clause-listed
returns-clause-listed c = λ d n i j s l h e. listed_once d h n l e i j s

pub returns-clause-core : goal.returns-clause-core
returns-clause-core c = λ d j k x y h. core_once d h j k x y

pub returns-clause-take : goal.returns-clause-take
returns-clause-take c = λ d j k x y h. take_once d h j k x y

pub returns-clause-row : goal.returns-clause-row
returns-clause-row c = λ d j k x y a h. row_once d h j k x y a
