use Rattle.std.proofs.Common.{rules, refl}
use Rattle.std.proofs.lemmas.Result.{on_ok_weaker}
use Rattle.width_fit.specs.Judging.{survey}
use Rattle.width_fit.proofs.Looking.{looks_walks, part_walks}
use Rattle.width_fit.proofs.walk.look_at.Goals as goal

pub returns-in-Some-clause-walks : goal.returns-in-Some-clause-walks
returns-in-Some-clause-walks c =
    let ws = c.args.given.now.widths.now in
    let found = c.args.walk.now.found in
    on_ok_weaker c.push_where.result
    (part_walks ws c.args.expr.now c.in-Ref.name c.in-Ref.suffixes c.as_slice-suffixes.result.now c.in-Some.typ.now c.in-Some.is_over
    (record { nodes = c.push.new.self; faults = found.faults; made = found.made }) c.survey_indexes.new.found c.args.walk.now _
    c.in-Ref.is (search rules) (c.in-Some.ensures ws c.requires.fits) (search rules) refl c.in_ok-survey_indexes.ensures refl refl refl refl)
    c.push_where.ensures

pub returns-clause-walks : goal.returns-clause-walks
returns-clause-walks c =
    let s = survey c.args.given.now.widths.now c.args.expr.now c.args.walk.now.known.entries in
    looks_walks c.args.given.now.widths.now c.args.expr.now s c.args.walk.now _ refl refl refl refl c.in_ok-survey_expr.ensures.found.nodes c.in_ok-survey_expr.ensures.found.faults
