use Rattle.board.proofs.Opened.{sons_taken}
use Rattle.board.proofs.running.advance_noted.Goals as goal

pub open_once-requires-clause-before : goal.open_once-requires-clause-before
open_once-requires-clause-before g c h =
    let m = g.V.Grade.Scale.meaning in
    sons_taken m c.args.own.now.rules.now c.args.s c.args.agenda.now.statements.now c.take.new.self.statements.now c.if-rose.grade c.requires.on.0 c.take.ensures.taken (c.requires.before h)
