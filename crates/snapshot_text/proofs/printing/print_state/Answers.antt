use Rattle.std.proofs.Common.{◌++◌, ◌∷◌, [], ap, ap₂, ◌∙◌, arith}
use Rattle.snapshot_text.proofs.Printed.{values_long, words_enough, text_is}
use Rattle.snapshot_text.proofs.printing.print_state.Goals as goal

pub push_inputs-requires : goal.push_inputs-requires
push_inputs-requires c =
    let long = values_long c.args.ports.now.inputs c.args.snapshot.now.inputs c.requires.holds.1.inputs in
    rw (c.as_slice.ensures, c.as_slice-2.ensures) (omega (arith, long))

pub push_words-requires-clause-long : goal.push_words-requires-clause-long
push_words-requires-clause-long c =
    rw c.as_slice-3.ensures (words_enough c.args.net.now c.requires.net c.args.ports.now.inputs c.requires.holds.0 c.args.snapshot.now c.requires.holds.1)

pub returns : goal.returns
returns c = λ t holds.
    let inputs = rw (c.as_slice.ensures, c.as_slice-2.ensures) at c.in_ok-push_inputs.ensures in
    let words = rw c.as_slice-3.ensures at c.in_ok-push_words.ensures in
    let head = c.in_ok-push.ensures.items
    ∙ ap (λ l. l ++ 10 ∷ []) (c.in_ok-extend_from_slice.ensures.items ∙ ap₂ (λ x y. x ++ y) c.in_ok-text.ensures.items (c.as_bytes.ensures.value ∙ c.format.ensures.text)) in
    text_is c.args.net.now c.requires.net c.args.ports.now.inputs t c.args.snapshot.now holds c.push.new.self.items c.push_inputs.new.text.items c.push_words.new.text.items head inputs words
