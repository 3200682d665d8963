-- A joined text is split in one way.
use Rattle.std.proofs.Common.{◌≡◌, ℕ, ◌≤◌, false, true, List, ⊎_elim, drop, take, refl, sym, ap, ◌∙◌, subst, arith, lt_of_not-le}
use native.Mathlib.Decide.{dec_le}
use Rattle.asked_texts.specs.Commands.{Job}
use Rattle.asked_texts.specs.Texts.{IsStimulusLine, StandsAt, NoneBefore, reads_all, HasNone, IsSplit, IsPart, all_of_it, before_line}

-- what stands behind the line
line_once : (bytes a b : List ℕ) → IsStimulusLine bytes a → IsStimulusLine bytes b → a ≡ b
line_once bytes a b p q =
    ⊎_elim (λ pf. ⊎_elim (λ qf. cc) (λ q'. ⊎_elim (λ qr. cc) (λ qe. let e = qe.0 in cc) q') q)
    (λ p'. ⊎_elim (λ pr. ⊎_elim (λ qf. cc) (λ q'. ⊎_elim (λ qr. cc) (λ qe. let e = qe.0 in cc) q') q)
    (λ pe. let e = pe.0 in let n = pe.1 in ⊎_elim (λ qf. cc) (λ q'. ⊎_elim (λ qr. cc) (λ qe. let m = qe.1 in cc) q') q) p') p

not_before : (text : List ℕ) (i j : ℕ) (a : List ℕ) → NoneBefore text j → StandsAt text i a → j ≤ i
not_before text i j a none stands = elim (dec_le j i) [ yes le ↦ le | no n ↦ absurd (none i a (lt_of_not-le n) stands) ]

pub split_once : (text a b a' b' : List ℕ) → IsSplit text a b → IsSplit text a' b' → (a ≡ a') × (b ≡ b')
split_once text a b a' b' p q =
    let le = not_before text q.at p.at b' p.first q.stands in
    let ge = not_before text p.at q.at b q.first p.stands in
    let same : p.at ≡ q.at = omega arith in (
      p.front ∙ ap (λ n. take n text) same ∙ sym q.front,
      line_once (drop q.at text) b b' (subst (λ n. IsStimulusLine (drop n text) b) same p.stands.line) q.stands.line,
    )

pub split_or_none : (text a b : List ℕ) → IsSplit text a b → HasNone text → ⊥
split_or_none text a b p none = none p.at b p.stands

pub part_once : (job : Job) (text a b a' b' : List ℕ) → IsPart job text a b → IsPart job text a' b' → (a ≡ a') × (b ≡ b')
part_once job text a b a' b' (before_line _ _ _ _ p) (before_line _ _ _ _ q) = split_once text a b a' b' p q
part_once job text a b _ _ (before_line _ _ _ _ p) (all_of_it _ _ r n) = absurd (split_or_none text a b p n)
part_once job text _ _ a b (all_of_it _ _ r n) (before_line _ _ _ _ q) = absurd (split_or_none text a b q n)
part_once job text _ _ _ _ (all_of_it _ _ r n) (all_of_it _ _ s m) = (refl, refl)

-- a job that runs the circuit has no part where there is no line
pub run_has_line : (job : Job) (text a b : List ℕ) → reads_all job ≡ false → IsPart job text a b → HasNone text → ⊥
run_has_line job text a b runs (before_line _ _ _ _ p) none = split_or_none text a b p none
run_has_line job text _ _ runs (all_of_it _ _ r n) none = let e : false ≡ true = sym runs ∙ r in cc
