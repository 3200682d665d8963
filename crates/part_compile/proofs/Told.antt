-- What sinks evaluate is pieces, one sink after the other.
use Rattle.std.proofs.Common.{◌≡◌, ◌⊎◌, ℕ, ◌≤◌, true, List, [], ◌∷◌, ◌++◌, get_or, slice_get, Option, Some, None, Contains, refl, sym, subst, ap, ◌∙◌, arith, ⊎_elim, append-nil, All}
use Rattle.std.proofs.lemmas.List.Concat.{flat_map-append}
use Rattle.ground_net.specs.declared.ground.Ground.{Ground}
use Rattle.ground_net.specs.declared.net.Net.{Net}
use Rattle.ground_net.specs.declared.net.NetRegister.{NetRegister}
use Rattle.ground_net.specs.declared.net.CutPart.{CutPart}
use Rattle.ground_net.specs.Cones.{Sink, A_watched, A_register, A_memory}
use Rattle.ground_net.specs.Reads.{driver_of}
use Rattle.ground_net.specs.Nets.{IsNet}
use Rattle.code_memories.specs.Nexts.{next_ground}
use Rattle.flat_code.specs.declared.instr.Location.{Location}
use Rattle.flat_code.specs.Fine.{among, location_slots, slots_of}
use Rattle.code_draft.specs.declared.draft.Draft.{Draft}
use Rattle.code_draft.proofs.Segmenting.{none_among, among_either}
use Rattle.code_draft.specs.declared.sources.Sources.{Sources}
use Rattle.code_emit.specs.Spans.{leaf_slots, found_slots, AreFoundBefore}
use Rattle.code_memories.specs.SinkGroups.{found_groups}
use Rattle.code_memories.specs.Groups.{IsMemoryGroup}
use Rattle.code_draft.specs.Pieces.{AddsPieces}
use Rattle.code_draft.proofs.Building.{adds_not, adds_then}
use Rattle.partition_code.specs.Codes.{sinks_of_part}
use Rattle.part_compile.specs.SlotBounds.{sinks_read, sinks_nodes}
use Rattle.part_compile.specs.Pieces.{GroupFits}
use Rattle.part_compile.proofs.Standing.{contains_first}
use Rattle.part_compile.proofs.Fitting.{all_read, register_fits, write_fits}
use Rattle.part_compile.proofs.Capturing.{capture_fits}
use Rattle.part_compile.proofs.Telling.{groups_pieces}
use Rattle.part_compile.specs.declared.work.Made.{Made}
use Rattle.part_compile.specs.Telling.{EvaluatesSink, AreFound, AreTold}

-- a slot of locations and of one more
slots_either : (ss : List Location) (s : Location) (k : ℕ) → among (slots_of (ss ++ s ∷ [])) k ≡ true → (among (slots_of ss) k ≡ true) ⊎ (among (location_slots s) k ≡ true)
slots_either ss s k e =
    let same : slots_of (ss ++ s ∷ []) ≡ slots_of ss ++ location_slots s = flat_map-append location_slots ss (s ∷ []) ∙ ap (λ l. slots_of ss ++ l) (append-nil (location_slots s)) in
    among_either (slots_of ss) (location_slots s) k (ap (λ l. among l k) (sym same) ∙ e)

module _ (net : Net) (w : IsNet net) (watch : List ℕ) (part : CutPart) (S : Sources) where
  register_groups_fit : (n : ℕ) → Contains (sinks_of_part net watch part) (A_register n) → ((n k : ℕ) (register : NetRegister) → slice_get net.registers n ≡ Some register → among (leaf_slots S register.leaf) k ≡ true → ⊥)
      → (o : Option NetRegister) → slice_get net.registers n ≡ o → All (GroupFits S (sinks_read net watch part) (sinks_nodes net watch part)) (found_groups net o)
  register_groups_fit n c out None e = λ k d lt. absurd (omega (arith, lt))
  register_groups_fit n c out (Some register) e = λ k d lt.
      let z : k ≡ 0 = omega (arith, lt) in
      subst (λ i. GroupFits S (sinks_read net watch part) (sinks_nodes net watch part) (get_or ((next_ground register (driver_of net register.leaf) ∷ []) ∷ []) i d)) (sym z)
      (register_fits net watch part S n register c e (λ k. out n k register e))

  memory_group_fits : (m : ℕ) (gs : List Ground) → Contains (sinks_of_part net watch part) (A_memory m) → IsMemoryGroup net m gs → GroupFits S (sinks_read net watch part) (sinks_nodes net watch part) gs
  memory_group_fits m gs c group = ⊎_elim
      (λ write. write_fits net watch part S m gs c write)
      (λ capture. capture_fits net watch part S m gs c (λ p memory port. w.memories m p memory port) capture)
      group

  module _ (start : Draft) (found : AreFound net watch part S start.slots) where
    pub told_none : (made : Made) → made.draft ≡ start → made.shown ≡ [] → AreTold net watch part S start made
    told_none made draft shown = record {
      adds = subst (AddsPieces (leaf_slots S) part.assignments (sinks_read net watch part) (sinks_nodes net watch part) start) (sym draft)
          (adds_not (leaf_slots S) part.assignments (sinks_read net watch part) (sinks_nodes net watch part) start);
      shown = λ k e. none_among k (ap (λ ss. among (slots_of ss) k) (sym shown) ∙ e);
    }

    told_besides : (old new : Made) → AreTold net watch part S start old
        → AddsPieces (leaf_slots S) part.assignments (sinks_read net watch part) (sinks_nodes net watch part) old.draft new.draft → new.shown ≡ old.shown → AreTold net watch part S start new
    told_besides old new so adds shown = record {
      adds = adds_then (leaf_slots S) part.assignments (sinks_read net watch part) (sinks_nodes net watch part) start old.draft new.draft so.adds adds;
      shown = λ k e. so.shown k (ap (λ ss. among (slots_of ss) k) (sym shown) ∙ e);
    }

    still_before : (n : ℕ) → start.slots ≤ n → AreFoundBefore S n
    still_before n le = λ x k e. let b = found.before x k e in omega (arith, b, le)

    pub told_more : (sink : Sink) (old new : Made) → Contains (sinks_of_part net watch part) sink → start.slots ≤ old.draft.slots → EvaluatesSink net S sink old new → AreTold net watch part S start old
        → AreTold net watch part S start new
    told_more (A_watched x) old new c le h so =
        let t = found.watched x c in
        let e = h t.0 t.1 in
        let at : leaf_slots S x ≡ location_slots t.0 = ap found_slots t.1 in
        record {
          adds = subst (AddsPieces (leaf_slots S) part.assignments (sinks_read net watch part) (sinks_nodes net watch part) start) (sym e.0) so.adds;
          shown = λ k a. ⊎_elim
              (so.shown k)
              (λ here. let there : among (leaf_slots S x) k ≡ true = ap (λ l. among l k) at ∙ here in
              record { leaf = x; before = found.assigned x k there; wanted = all_read net watch part (A_watched x) c x (contains_first x []); there = there })
              (slots_either old.shown t.0 k (ap (λ ss. among (slots_of ss) k) (sym e.1) ∙ a));
        }
    told_more (A_register n) old new c le h so = told_besides old new so
        (groups_pieces S part.assignments (sinks_read net watch part) (sinks_nodes net watch part) found.assigned (found_groups net (slice_get net.registers n)) old.draft new.draft (h.evaluates (still_before old.draft.slots le))
        (register_groups_fit n c found.registers (slice_get net.registers n) refl)) h.shown
    told_more (A_memory m) old new c le h so =
        let e = h.0 (still_before old.draft.slots le) in
        told_besides old new so
        (groups_pieces S part.assignments (sinks_read net watch part) (sinks_nodes net watch part) found.assigned e.0 old.draft new.draft e.2
        (λ k d lt. memory_group_fits m (get_or e.0 k d) c (e.1 k d lt))) h.1
