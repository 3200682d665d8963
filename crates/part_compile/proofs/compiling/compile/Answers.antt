use Rattle.std.proofs.Common.{◌≡◌, ◌+◌, ◌<◌, length, map, take, slice_get, Some, sym, subst, ap, ◌∙◌, arith}
use Rattle.std.proofs.lemmas.List.{take_all}
use Rattle.std.proofs.lemmas.Option.{slice_get-get_or}
use Rattle.cone_cutter.specs.Rows.{sink_of}
use Rattle.partition_code.specs.Codes.{AreCodesOf}
use Rattle.part_compile.proofs.Driving.{placed_few}
use Rattle.part_compile.proofs.Placed.{placed_is_code}
use Rattle.part_compile.specs.Frames.{TakesFewSlots, TakeFewSlots}
use Rattle.part_compile.proofs.Composing.{have_drivers, codes_none, codes_more, few_none, few_more}
use Rattle.part_compile.proofs.Rooming.{room_fits}
use Rattle.part_compile.proofs.compiling.compile.Goals as goal

pub loop-part-init : goal.loop-part-init
loop-part-init c = (codes_none c.args.ordered.now.net c.args.watch.now _ c.new-codes.ensures, few_none c.args.ordered.now.net c.args.watch.now _)

pub code_of-requires-clause-part : goal.code_of-requires-clause-part
code_of-requires-clause-part c =
    let parts = c.args.cut.now.parts in
    let xs = c.as_slice-part-items.result.now in
    let i = c.loop-part.part-index in
    let part = c.part-item.result in
    let test = c.loop-part-test.true in
    let below : i < length xs = omega (arith, test) in
    let there : slice_get parts i ≡ Some part = ap (λ l. slice_get l i) (sym c.as_slice-part-items.ensures) ∙ (slice_get-get_or xs i part below ∙ ap Some (sym c.part-item.is)) in
    record { sequence = c.args.ordered.now.sequence; order = c.requires.order; union = c.requires.split.unions i part there }

pub code_of-requires-clause-sinks : goal.code_of-requires-clause-sinks
code_of-requires-clause-sinks c = ap (map sink_of) c.as_slice-sinks.ensures.value ∙ c.in_ok-rows.ensures.sinks

pub room_of-requires : goal.room_of-requires
room_of-requires c = record { rows = record { are = c.in_ok-rows.ensures.rows; of_sinks = c.in_ok-rows.ensures.sinks; reads = c.in_ok-rows.ensures.reads; needed = c.in_ok-rows.ensures.needed } }

pub loop-part-preserved : goal.loop-part-preserved
loop-part-preserved c =
    let parts = c.args.cut.now.parts in
    let xs = c.as_slice-part-items.result.now in
    let i = c.loop-part.part-index in
    let part = c.part-item.result in
    let test = c.loop-part-test.true in
    let below : i < length xs = omega (arith, test) in
    let there : slice_get parts i ≡ Some part = ap (λ l. slice_get l i) (sym c.as_slice-part-items.ensures) ∙ (slice_get-get_or xs i part below ∙ ap Some (sym c.part-item.is)) in
    let net = c.args.ordered.now.net in
    let watch = c.args.watch.now in
    let new = c.in_ok-arrange_once.field-0 in
    let is = placed_is_code net watch part c.in_ok-code.code new c.in_ok-code.ensures.code c.in_ok-arrange_once.ensures.placed in
    let had = c.loop-part.invariant in
    let drivers = have_drivers net c.requires.net watch part c.args.ordered.now.sequence (c.requires.split.unions i part there) in
    let few : TakesFewSlots net watch part new = λ watches. placed_few net watch part drivers c.in_ok-code.code new c.in_ok-room.room (c.in_ok-code.ensures.pieces watches) (room_fits net watch part c.in_ok-room.room c.in_ok-room.ensures)
    c.in_ok-arrange_once.ensures.few.few c.in_ok-arrange_once.ensures.few.fewer in (
      subst (AreCodesOf net watch (take (i + 1) parts)) (sym c.in_ok-push.ensures.ok) (codes_more net watch parts i part c.loop-part.codes new there had.0 is),
      subst (TakeFewSlots net watch (take (i + 1) parts)) (sym c.in_ok-push.ensures.ok) (few_more net watch parts i part c.loop-part.codes new there had.0.counted had.1 few),
    )

pub returns-clause-codes : goal.returns-clause-codes
returns-clause-codes c =
    let test = c.loop-part-test.false in
    let same = ap length c.as_slice-part-items.ensures in
    subst (λ ps. AreCodesOf c.args.ordered.now.net c.args.watch.now ps c.loop-part.codes) (take_all c.loop-part.part-index c.args.cut.now.parts (omega (arith, test, same))) c.loop-part.invariant.0

pub returns-clause-few : goal.returns-clause-few
returns-clause-few c =
    let test = c.loop-part-test.false in
    let same = ap length c.as_slice-part-items.ensures in
    subst (λ ps. TakeFewSlots c.args.ordered.now.net c.args.watch.now ps c.loop-part.codes) (take_all c.loop-part.part-index c.args.cut.now.parts (omega (arith, test, same))) c.loop-part.invariant.1
