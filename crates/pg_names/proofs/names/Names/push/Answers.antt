use Rattle.pg_names.proofs.Texts.{map-insert_key, AreNames-append_new}
use Rattle.pg_names.proofs.names.Names.push.Goals as goal

pub returns-clause-last : goal.returns-clause-last
returns-clause-last c =
    map-insert_key c.self.inside.texts.keys c.insert.new.self.keys c.in_ok-name.name c.args.self.now c.args.text.now c.in_ok-insert.ensures.keys c.self.view_is c.in_ok-name.ensures.ok c.requires.new

pub invariant_of-self-2 : goal.invariant_of-self-2
invariant_of-self-2 c =
    let last = map-insert_key c.self.inside.texts.keys c.insert.new.self.keys c.in_ok-name.name c.args.self.now c.args.text.now c.in_ok-insert.ensures.keys c.self.view_is c.in_ok-name.ensures.ok c.requires.new in
    AreNames-append_new c.self.inside.texts.keys c.insert.new.self.keys c.args.self.now c.args.text.now last c.self.view_is c.self.invariant c.requires.new c.requires.room
