-- The code of a part from its drafts.
use Rattle.std.proofs.Common.{◌≡◌, ℕ, ◌≤◌, true, List, [], ◌∷◌, ◌++◌, length, refl, sym, subst, ap, ◌∙◌}
use Rattle.std.proofs.lemmas.List.Concat.{flat_map-append}
use Rattle.ground_net.specs.declared.net.Net.{Net}
use Rattle.ground_net.specs.declared.net.CutPart.{CutPart}
use Rattle.ground_net.specs.Reads.{direct_reads}
use Rattle.flat_code.specs.declared.code.Code.{Code}
use Rattle.flat_code.specs.Fine.{among, slots_of}
use Rattle.code_draft.specs.declared.draft.Draft.{Draft}
use Rattle.code_draft.specs.Segments.{GoesOn}
use Rattle.code_draft.specs.Pieces.{Piece, Follow, end_of, instrs_of, StandsIn, AssignsPieces, AddsPieces}
use Rattle.code_draft.proofs.Joining.{goes_same, goes_then}
use Rattle.code_draft.proofs.Building.{follow_on}
use Rattle.part_compile.specs.SlotBounds.{sinks_read, assignment_nodes, sinks_nodes}
use Rattle.part_compile.specs.Pieces.{InPieces}

end_on : (ps qs : List Piece) (from : ℕ) → end_of from (ps ++ qs) ≡ end_of (end_of from ps) qs
end_on [] qs from = refl
end_on (p ∷ ps) qs from = end_on ps qs p.last

pub in_pieces : (net : Net) (watch : List ℕ) (part : CutPart) (code : Code) (locations : ℕ → List ℕ) (start mid last : Draft) → ((x : ℕ) → length (locations x) ≤ 2) → start.instrs ≡ [] → start.slots ≡ 0
    → AssignsPieces locations (direct_reads net) (assignment_nodes net) part.assignments start mid → AddsPieces locations part.assignments (sinks_read net watch part) (sinks_nodes net watch part) mid last
    → code.instrs ≡ last.instrs → code.ports ≡ last.ports → code.wides ≡ last.wides → code.slots ≡ last.slots
    → ((k : ℕ) → among (slots_of code.shown) k ≡ true → StandsIn locations part.assignments (sinks_read net watch part) k) → InPieces net watch part code
in_pieces net watch part code locations start mid last two none zero_slots f g instrs ports wides slots shown =
    let on_last : GoesOn last code.ports code.wides = subst (λ ps. GoesOn last ps code.wides) (sym ports) (subst (GoesOn last last.ports) (sym wides) (goes_same last)) in
    let on_mid : GoesOn mid code.ports code.wides = goes_then mid last code.ports code.wides g.goes.tables on_last in
    let ends : end_of 0 f.pieces ≡ mid.slots = ap (λ n. end_of n f.pieces) (sym zero_slots) ∙ f.goes.ends in
    record {
      locations = locations;
      two = two;
      assigning = f.pieces;
      telling = g.pieces;
      is = instrs ∙ (g.goes.is ∙ (ap (λ is. is ++ instrs_of g.pieces) (f.goes.is ∙ ap (λ is. is ++ instrs_of f.pieces) none) ∙ sym (flat_map-append (λ (p : Piece). p.instrs) f.pieces g.pieces)));
      follow = follow_on f.pieces g.pieces 0 (subst (λ n. Follow n f.pieces) zero_slots f.goes.follow) (subst (λ n. Follow n g.pieces) (sym ends) g.goes.follow);
      ends = end_on f.pieces g.pieces 0 ∙ (ap (λ n. end_of n g.pieces) ends ∙ (g.goes.ends ∙ sym slots));
      counted = f.counted;
      assigned = f.each code.ports code.wides on_mid;
      told = g.each code.ports code.wides on_last;
      shown = shown;
    }
