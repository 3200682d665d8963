-- The shape of a script, part by part.
use Rattle.std.proofs.Common.{◌≡◌, Bool, true, false, IsTrue, ℕ, ◌<◌, ◌≤◌, List, [], length, get_or, sym, subst, ◌∙◌, arith, lt_of_not-le}
use Rattle.std.specs.Prelude.{◌↔◌, ◌&&◌, ◌*◌, ◌^◌, nat_eq, nat_lt, nat_le}
use Rattle.std.proofs.lemmas.Bool.Decides.{nat_tests}
use native.Mathlib.Decide.{dec_le}
use mathlib.Core.Option.{some-ne-none}
use Rattle.std.proofs.lemmas.List.{get_or_past}
use Rattle.phase_core.specs.declared.model.Script.{Script}
use Rattle.phase_core.specs.declared.model.Publication.{Publication}
use Rattle.phase_core.specs.Script.{owner, publications, OwnedBy, IsPart, OwnRound, OwnRounds, HasOwners, IsScript}
use Rattle.phase_core.proofs.Lists.{at_index, at-get_or}

pub untrue : IsTrue false → ⊥
untrue f = let q : false ≡ true = f in cc

pub any_default : {A : Type 0} (l : List A) (i : ℕ) (x d : A) → i < length l → x ≡ get_or l i x → x ≡ get_or l i d
any_default l i x d h e = e ∙ sym (at-get_or l i (get_or l i x) d (at_index l i x h))

pub past_part : (s : Script) (w : ℕ) (r : List (List Publication)) → length r ≤ w → IsPart s w (get_or r w [])
past_part s w r h = subst (IsPart s w) (sym (get_or_past r w [] h)) (record { own = λ k p e. absurd (some-ne-none p (sym e)); counted = omega arith })

pub own_all : (s : Script) (r : List (List Publication)) (n : ℕ) → length r ≤ n → ((w : ℕ) → w < n → IsPart s w (get_or r w [])) → OwnRound s r
own_all s r n le h w = elim (dec_le n w) [ yes past ↦ past_part s w r (omega arith) | no inside ↦ h w (lt_of_not-le inside) ]

-- the parts of all cycles, also of those that the script does not have
pub part_is : (s : Script) → IsScript s → (c w : ℕ) → IsPart s w (publications s c w)
part_is s is c w = elim (dec_le (length s.rounds) c) [
  | yes past ↦ subst (λ r. IsPart s w (get_or r w [])) (sym (get_or_past s.rounds c [] past)) (past_part s w [] (omega arith))
  | no inside ↦ (is.own c (lt_of_not-le inside)).1 w
]

pub own_part : (s : Script) → IsScript s → (c w : ℕ) → OwnedBy s w (publications s c w)
own_part s is c w = (part_is s is c w).own

pub counted_part : (s : Script) → IsScript s → (c w : ℕ) → length (publications s c w) < 2 ^ 64
counted_part s is c w = (part_is s is c w).counted

pub owner_below : (s : Script) → IsScript s → (i : ℕ) → i < length s.first → owner s i < s.workers
owner_below s is i h = is.owners i (subst (λ n. i < n) (sym is.owned) h)

pub tested : (s : Script) (n m k : ℕ) (a b : Bool) → n ≡ length s.owners → m ≡ length s.first → k ≡ length s.rounds → IsTrue a ↔ HasOwners s → IsTrue b ↔ OwnRounds s
    → IsTrue (((((nat_le 1 s.workers && nat_lt (2 * s.cycles * s.workers) (2 ^ 64)) && nat_eq n m) && nat_eq k s.cycles) && a) && b) ↔ IsScript s
tested s n m k a b e e' e'' owners parts = (
  λ t. let x : IsTrue a = grind (arith, nat_tests) in let y : IsTrue b = grind (arith, nat_tests) in record {
    workers = grind (arith, nat_tests);
    fits = grind (arith, nat_tests);
    owned = let q : n ≡ m = grind (arith, nat_tests) in sym e ∙ q ∙ e';
    owners = owners.0 x;
    rounds = let q : k ≡ s.cycles = grind (arith, nat_tests) in sym e'' ∙ q;
    own = parts.0 y;
  },
  λ is. let x : a ≡ true = owners.1 is.owners in let y : b ≡ true = parts.1 is.own in let q : n ≡ m = e ∙ is.owned ∙ sym e' in let r : k ≡ s.cycles = e'' ∙ is.rounds in
      let f = is.fits in let w = is.workers in grind (arith, nat_tests),
)
