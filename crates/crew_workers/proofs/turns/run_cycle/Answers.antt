use Rattle.std.proofs.Common.{rules, vec_len, length, drop, take_at, sym, ap, ◌∙◌, arith, ◌≡◌, ◌<◌, List, subst}
use lib.ListN.{get_elem?}
use Rattle.phase_core.specs.declared.model.Publication.{Publication}
use Rattle.phase_core.specs.Script.{published_all}
use Rattle.flat_code.specs.declared.running.Effects.{Effects}
use Rattle.crew_workers.specs.Places.{HasPlaces}
use Rattle.crew_workers.specs.Turns.{Evaluated}
use Rattle.crew_workers.proofs.Spreads.{some_of}
use Rattle.crew_workers.proofs.Rows.{outputs_many, parts_round, row_of}
use Rattle.crew_workers.proofs.turns.run_cycle.Goals as goal

pub output_row-requires-clause-outputs : goal.output_row-requires-clause-outputs
output_row-requires-clause-outputs g c =
    let codes = c.args.team.now.codes.now in let ws = c.args.words.now in let x = c.args.cycle.now.inputs.now in
    let old = c.args.desk.now.effects.items in let new = c.evaluate_codes.new.effects in let filled : length old ≡ vec_len c.args.desk.now.effects = search rules in
    let same : c.as_slice-effects.result.now ≡ new = c.as_slice-effects.ensures.value ∙ take_at new (drop (length new) old) (vec_len c.args.desk.now.effects) (c.evaluate_codes.ensures.room.many ∙ sym c.requires.room.many ∙ filled) in
    let e : Evaluated codes ws x c.as_slice-effects.result.now (length codes) = subst (λ (l : List Effects). Evaluated codes ws x l (length codes)) (sym same) c.evaluate_codes.ensures.effects in
    λ k d f h. ap length (e.outputs k d f h) ∙ outputs_many codes k d ws x

pub store_all-requires : goal.store_all-requires
store_all-requires g c =
    let codes = c.args.team.now.codes.now in let ws = c.args.words.now in let x = c.args.cycle.now.inputs.now in
    let old = c.args.desk.now.effects.items in let new = c.evaluate_codes.new.effects in let filled : length old ≡ vec_len c.args.desk.now.effects = search rules in
    let same : c.as_slice-effects.result.now ≡ new = c.as_slice-effects.ensures.value ∙ take_at new (drop (length new) old) (vec_len c.args.desk.now.effects) (c.evaluate_codes.ensures.room.many ∙ sym c.requires.room.many ∙ filled) in
    let e : Evaluated codes ws x c.as_slice-effects.result.now (length codes) = subst (λ (l : List Effects). Evaluated codes ws x l (length codes)) (sym same) c.evaluate_codes.ensures.effects in
    λ k j f p h at.
    let m = c.evaluate_codes.ensures.room.many in let n = ap length same in let h' : k < length codes = omega (arith, h, m, n) in let d = some_of codes k h' in
    c.requires.publish.there k j d p h' (ap (λ (l : List Publication). get_elem? l j) (sym (e.publications k d f h')) ∙ at)

pub returns-clause-words : goal.returns-clause-words
returns-clause-words g c =
    let codes = c.args.team.now.codes.now in let ws = c.args.words.now in let x = c.args.cycle.now.inputs.now in
    let old = c.args.desk.now.effects.items in let new = c.evaluate_codes.new.effects in let filled : length old ≡ vec_len c.args.desk.now.effects = search rules in
    let same : c.as_slice-effects.result.now ≡ new = c.as_slice-effects.ensures.value ∙ take_at new (drop (length new) old) (vec_len c.args.desk.now.effects) (c.evaluate_codes.ensures.room.many ∙ sym c.requires.room.many ∙ filled) in
    let e : Evaluated codes ws x c.as_slice-effects.result.now (length codes) = subst (λ (l : List Effects). Evaluated codes ws x l (length codes)) (sym same) c.evaluate_codes.ensures.effects in
    c.store_all.ensures ∙ ap (λ r. published_all r ws) (parts_round codes ws x c.as_slice-effects.result.now (ap length same ∙ c.evaluate_codes.ensures.room.many) e)

pub returns-clause-row : goal.returns-clause-row
returns-clause-row g c =
    let codes = c.args.team.now.codes.now in let ws = c.args.words.now in let x = c.args.cycle.now.inputs.now in
    let old = c.args.desk.now.effects.items in let new = c.evaluate_codes.new.effects in let filled : length old ≡ vec_len c.args.desk.now.effects = search rules in
    let same : c.as_slice-effects.result.now ≡ new = c.as_slice-effects.ensures.value ∙ take_at new (drop (length new) old) (vec_len c.args.desk.now.effects) (c.evaluate_codes.ensures.room.many ∙ sym c.requires.room.many ∙ filled) in
    let e : Evaluated codes ws x c.as_slice-effects.result.now (length codes) = subst (λ (l : List Effects). Evaluated codes ws x l (length codes)) (sym same) c.evaluate_codes.ensures.effects in
    row_of codes ws x c.in_ok-row.row c.as_slice-effects.result.now (ap length same ∙ c.evaluate_codes.ensures.room.many) (subst (HasPlaces codes) (sym c.in_ok-row.ensures.many) c.requires.places) c.in_ok-row.ensures.row e
