-- What is known behind one part more.
use Rattle.std.proofs.Common.{◌≡◌, ℕ, ◌+◌, ◌<◌, List, [], ◌∷◌, ◌++◌, map, length, take, get_or, refl, sym, ap, ◌∙◌, arith}
use Rattle.std.proofs.lemmas.Grind.{common_steps}
use Rattle.std.proofs.lemmas.List.{map_more}
use Rattle.fir_tree.specs.declared.circuit.Module.{Module}
use Rattle.fir_tree.specs.declared.stmt.Stmt.{the_lemmas as stmt_lemmas}
use Rattle.fir_tree.specs.declared.stmt.Arm.{Arm}
use Rattle.size_check.specs.Typings.{Known, Notes, in_turn, stmt_notes, arm_notes}

in_turn-append : (xs : List Notes) (f : Notes) (k : Known) → in_turn (xs ++ f ∷ []) k ≡ f (in_turn xs k)
in_turn-append [] f k = refl
in_turn-append (x ∷ xs) f k = in_turn-append xs f (x k)

pub notes_more : {X : Type 0} (notes : X → Notes) (xs : List X) (i : ℕ) (x : X) (old mid new : Known) → i < length xs → x ≡ get_or xs i x
    → mid ≡ in_turn (map notes (take i xs)) old → new ≡ notes x mid → new ≡ in_turn (map notes (take (i + 1) xs)) old
notes_more notes xs i x old mid new lt is h e =
    e ∙ ap (notes x) h ∙ ap (λ y. notes y (in_turn (map notes (take i xs)) old)) is
    ∙ sym (ap (λ l. in_turn l old) (map_more notes xs i x lt) ∙ in_turn-append (map notes (take i xs)) (notes (get_or xs i x)) old)

pub arm_notes_are : (modules : List Module) (a : Arm) (known : Known) → arm_notes modules a known ≡ in_turn (map (stmt_notes modules) a.body) known
arm_notes_are modules a known = ap (λ f. f known) folded
  where
    folded : arm_notes modules a ≡ in_turn (map (stmt_notes modules) a.body)
    folded = grind (arith, common_steps, stmt_lemmas)
