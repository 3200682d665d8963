use Rattle.std.proofs.Common.{◌≡◌, true, false, length, take, sym, ap, ◌∙◌, arith}
use Rattle.std.specs.Prelude.{Some}
use Rattle.std.specs.Map.{update}
use Rattle.std.specs.Str.{bytes_eq}
use Rattle.std.proofs.lemmas.List.{length-take-le}
use Rattle.stimulus.specs.declared.names.NamedLeaf.TheVariants.{Input}
use Rattle.stimulus.specs.Naming.{found, named_in, is_other}
use Rattle.stimulus.proofs.Finding.{input_added, input_kept, next_inputs, update_under}
use Rattle.stimulus.proofs.names.add_inputs.Goals as goal
use Rattle.stimulus.proofs.names.add_inputs.Goals.{then-is_other+in_ok-add, else-is_other}

pub loop-number-preserved : goal.loop-number-preserved
loop-number-preserved c names start q =
    let before = c.loop-number.invariant names start in
    let leaf = c.index-inputs-number.result in
    let i = c.loop-number.number in
    let inputs = c.args.inputs.now in
    let long : length (take i inputs) ≡ i = length-take-le i inputs (omega arith) in
    let next = next_inputs inputs i leaf c.loop-number-test.true c.index-inputs-number.is in
    let name = c.as_slice-name.ensures in
    elim c.if-is_other.branch [
      | then-is_other+in_ok-add w ↦
          let yes : is_other (named_in names (take i inputs) leaf.name) ≡ true =
          ap is_other (sym (before leaf.name)) ∙ ap (λ n. is_other (found c.loop-number.known n)) (sym name) ∙ ap is_other (sym c.find.ensures) ∙ sym c.is_other.ensures ∙ w.if-is_other.true in
          rw w.known-is (w.in_ok-add.ensures q ∙ ap (λ n. update bytes_eq (found c.loop-number.known) n (Some (Input i)) q) name ∙ update_under (found c.loop-number.known) (named_in names (take i inputs)) leaf.name (Some (Input i)) q (before q) ∙ ap (λ k. update bytes_eq (named_in names (take i inputs)) leaf.name (Some (Input k)) q) (sym long) ∙ input_added names (take i inputs) leaf q yes ∙ ap (λ ls. named_in names ls q) (sym next))
      | else-is_other w ↦
          let no : is_other (named_in names (take i inputs) leaf.name) ≡ false =
          ap is_other (sym (before leaf.name)) ∙ ap (λ n. is_other (found c.loop-number.known n)) (sym name) ∙ ap is_other (sym c.find.ensures) ∙ sym c.is_other.ensures ∙ w.if-is_other.false in
          rw w.known-is (before q ∙ sym (input_kept names (take i inputs) leaf q no) ∙ ap (λ ls. named_in names ls q) (sym next))
    ]
