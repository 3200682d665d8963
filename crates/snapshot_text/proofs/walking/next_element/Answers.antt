use Rattle.std.proofs.Common.{◌+◌, Some, sym, ap, ap₂, ◌∙◌, subst, refl, arith, inl, inr, codes}
use Rattle.std.proofs.lemmas.Option.{slice_get-get_or}
use Rattle.snapshot_text.specs.Cells.{element_name}
use Rattle.snapshot_text.specs.Steps.{IsNext}
use Rattle.snapshot_text.proofs.Stepping.{element_next}
use Rattle.snapshot_text.proofs.walking.next_element.Goals as goal
use Rattle.snapshot_text.proofs.walking.next_element.Goals.{then-behind-len, else-behind-len}

pub overflow_add-behind-then-behind-len : goal.overflow_add-behind-then-behind-len
overflow_add-behind-then-behind-len c =
    let memories = c.args.cursor.net.now.memories in
    let memory = c.index-as_slice-cursor.result in
    let is = rw c.as_slice.ensures at c.index-as_slice-cursor.is in
    let has = c.requires.has memory (slice_get-get_or memories c.args.cursor.memory memory c.requires.there ∙ ap Some (sym is)) in
    omega (arith, has.element)

pub returns : goal.returns
returns c =
    let cursor = c.args.cursor in
    let memories = cursor.net.now.memories in
    let memory = c.index-as_slice-cursor.result in
    let leaf = c.index-as_slice-cursor-2.result in
    let is = rw c.as_slice.ensures at c.index-as_slice-cursor.is in
    let part = rw c.as_slice-2.ensures at c.index-as_slice-cursor-2.is in
    let has = c.requires.has memory (slice_get-get_or memories cursor.memory memory c.requires.there ∙ ap Some (sym is)) in
    let cell = ap₂ (λ name path. record { word = codes "mem"; name = element_name name cursor.element path; kind = leaf.kind; width = leaf.width }) c.as_slice-4.ensures c.as_slice-3.ensures in
    elim c.if-behind-len.branch [
      | then-behind-len w ↦ subst (IsNext cursor _) (sym w.behind-is)
          (element_next cursor _ memory leaf (cursor.element + 1) 0 c.requires.past c.requires.there is has.element has.leaf part cell (inl (w.if-behind-len.true ∙ c.len.ensures, refl, refl)))
      | else-behind-len w ↦ subst (IsNext cursor _) (sym w.behind-is)
          (element_next cursor _ memory leaf cursor.element (cursor.leaf + 1) c.requires.past c.requires.there is has.element has.leaf part cell (inr ((λ e. w.if-behind-len.false (e ∙ sym c.len.ensures)), refl, refl)))
    ]
