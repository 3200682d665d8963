use Rattle.std.proofs.Common.{ℕ, ℤ, List, ◌≡◌, ◌∷◌, ◌∙◌, sym, ap, ap₂, get_or, [], pos, if◌then◌else◌, arith}
use Rattle.std.specs.Ordering.{int_eq}
use Rattle.bit_words.specs.Values.{integer_of}
use Rattle.fir_types.specs.declared.leaf.TypeLeaf.{TypeLeaf}
use Rattle.fir_types.specs.declared.leaf.PathStep.{PathStep}
use Rattle.fir_types.specs.declared.leaf.PathStep.TheVariants as step
use Rattle.fir_meaning.specs.Values.{lone}
use Rattle.fir_meaning.specs.MemoryPorts.{shown}
use Rattle.plain_values.specs.Contents.{leaves_of_seen, port_of_held}
use Rattle.plain_values.specs.Writing.{over}
use Rattle.plain_values.proofs.Storing.{over_more}
use Rattle.plain_values.proofs.writing.written.Goals.{then-masked+in_ok-value, else-masked}
use Rattle.plain_values.proofs.writing.written.Goals as goal

pub loop-at-preserved : goal.loop-at-preserved
loop-at-preserved c =
    let seen = leaves_of_seen c.args.memory.now in
    let port = shown seen (port_of_held c.args.port) in
    let leaves = c.args.memory.now.leaves.now in
    let before = c.args.before.now in
    let at = c.loop-at.at in
    let leaf : TypeLeaf = get_or leaves at c.index-memory-at.result in
    let old = get_or before at (lone []) in
    let at_field : ℕ → List PathStep → ℤ = λ field way. seen (step.Field c.args.port.name.id ∷ step.Field field ∷ way) in
    let masked : c.in_ok-masked.masked ≡ port.masked leaf.path = c.in_ok-masked.ensures ∙ ap₂ (λ field way. int_eq (at_field field way) (pos 1)) c.mask_field.ensures c.as_slice-way.ensures in
    let value : integer_of c.if-masked.value ≡ over port (leaf, old) = elim c.if-masked.branch [
      | then-masked+in_ok-value w ↦
          ap integer_of w.value-is ∙ (w.in_ok-value.ensures ∙ (ap₂ at_field w.written_field.ensures c.as_slice-way.ensures
          ∙ sym (ap (λ b. if b then port.written leaf.path else integer_of old) (sym masked ∙ w.if-masked.true))))
      | else-masked w ↦
          ap integer_of w.value-is ∙ (ap integer_of w.value_or_zero-value.ensures ∙ sym (ap (λ b. if b then port.written leaf.path else integer_of old) (sym masked ∙ w.if-masked.false)))
    ] in
    over_more port leaves before c.loop-at.after c.push.new.self c.if-masked.value at leaf (omega arith) (ap (get_or leaves at) c.index-memory-at.is) c.in_ok-push.ensures.ok c.loop-at.invariant value
