-- The tables of owners and of what the parts hold, entry by entry.
use Rattle.std.proofs.Common.{◌≡◌, ◌≢◌, ℕ, ◌+◌, ◌<◌, ◌==◌, true, false, List, [], ◌∷◌, ◌++◌, length, map, take, get_or, slice_get, slice_index, slice_set, Some, refl, sym, subst, ap, ◌∙◌, arith, ⊎_elim}
use Rattle.std.specs.List.{Contains}
use Rattle.std.proofs.lemmas.Bool.{cases_eq, cases_lt}
use Rattle.std.proofs.lemmas.List.{length-set, take_more, map-append}
use Rattle.std.proofs.lemmas.List.Elements.{Contains-append_left, Contains-push, Contains-push_cases}
use Rattle.std.proofs.lemmas.Nat.Bits.{bit_at-zero}
use Rattle.ground_net.specs.declared.net.CutPart.{CutPart}
use Rattle.cone_cutter.specs.Loads.{has_bit, holds, Gets}
use Rattle.cone_cutter.proofs.Lists.{set_here, set_there, none_in}
use Rattle.cut_refine.specs.Standing.{Owns, AreParted, AreApart, Loses}
use Rattle.cut_refine.proofs.Sets.{both_ways}

-- leaves that a part loses

pub loses_none : (part : ℕ) (counts old : List ℕ) → Loses part [] counts old old
loses_none part counts old = record { long = refl; lost = λ x c. absurd (none_in x c); kept = λ x n. refl; others = λ p x lt n. refl }

module _ (part : ℕ) (cone counts old new : List ℕ) (x mask : ℕ) (h : Loses part cone counts old new) (lt : x < length new) (lone : slice_index counts x ≡ 1 → has_bit mask part ≡ false)
    (shared : slice_index counts x ≢ 1 → mask ≡ slice_index new x) (stay : (p : ℕ) → p < 64 → p ≢ part → has_bit mask p ≡ has_bit (slice_index new x) p) where
  here : (p y : ℕ) → y ≡ x → holds (slice_set new x mask) p y ≡ has_bit mask p
  here p y e = ap (λ m. has_bit m p) (set_here new x mask y lt e)

  there : (p y : ℕ) → y ≢ x → holds (slice_set new x mask) p y ≡ holds new p y
  there p y n = ap (λ m. has_bit m p) (set_there new x mask y n)

  kept_here : (y : ℕ) → y ≡ x → (Contains (cone ++ x ∷ []) y → slice_index counts y ≢ 1) → holds (slice_set new x mask) part y ≡ holds old part y
  kept_here y e f =
      let stood = subst (Contains (cone ++ x ∷ [])) (sym e) (Contains-push cone x) in
      let several : slice_index counts x ≢ 1 = (λ one. f stood (ap (slice_index counts) e ∙ one)) in
      here part y e ∙ (ap (λ m. has_bit m part) (shared several) ∙ (ap (holds new part) (sym e) ∙ h.kept y (λ c. f (Contains-append_left cone (x ∷ []) y c))))

  pub loses_more : Loses part (cone ++ x ∷ []) counts old (slice_set new x mask)
  loses_more = record {
    long = length-set new x mask ∙ h.long;
    lost = λ y c once. ⊎_elim
        (λ e. here part y e ∙ lone (ap (slice_index counts) (sym e) ∙ once))
        (λ n. there part y n ∙ ⊎_elim (λ o. h.lost y o once) (λ e. absurd (n (sym e))) (Contains-push_cases cone x y c))
        (cases_eq y x);
    kept = λ y f. ⊎_elim
        (λ e. kept_here y e f)
        (λ n. there part y n ∙ h.kept y (λ c. f (Contains-append_left cone (x ∷ []) y c)))
        (cases_eq y x);
    others = λ p y small n. ⊎_elim
        (λ e. here p y e ∙ (stay p small n ∙ (h.others p x small n ∙ ap (holds old p) (sym e))))
        (λ d. there p y d ∙ h.others p y small n)
        (cases_eq y x);
  }

-- owners

pub owns_none : (part : ℕ) (old : List ℕ) → Owns part [] old old
owns_none part old = record { long = refl; got = λ k c. absurd (none_in k c); others = λ k n. refl }

pub owns_more : (part : ℕ) (sinks old new : List ℕ) (s : ℕ) → Owns part sinks old new → s < length new → Owns part (sinks ++ s ∷ []) old (slice_set new s part)
owns_more part sinks old new s h lt = record {
  long = length-set new s part ∙ h.long;
  got = λ k c. ⊎_elim
      (λ e. set_here new s part k lt e)
      (λ n. set_there new s part k n ∙ h.got k (⊎_elim (λ o. o) (λ e. absurd (n (sym e))) (Contains-push_cases sinks s k c)))
      (cases_eq k s);
  others = λ k n. set_there new s part k (λ e. n (subst (Contains (sinks ++ s ∷ [])) (sym e) (Contains-push sinks s))) ∙ h.others k (λ c. n (Contains-append_left sinks (s ∷ []) k c));
}

-- parts

pub parted_none : (parts : List CutPart) (owners masks : List ℕ) → ((x : ℕ) → slice_index masks x ≡ 0) → AreParted 0 parts owners masks
parted_none parts owners masks zeros = record {
  owned = λ p part lt e k c. absurd (omega (arith, lt));
  holding = λ p part lt e x c. absurd (omega (arith, lt));
  held = λ p part lt e x t. absurd (omega (arith, lt));
  none = λ p x le. ap (λ m. has_bit m p) (zeros x) ∙ ap (λ b. b == 1) (bit_at-zero p);
}

module _ (n : ℕ) (parts : List CutPart) (owners masks owned_now held_now : List ℕ) (part : CutPart) (h : AreParted n parts owners masks) (there : slice_get parts n ≡ Some part)
    (owns : Owns n part.sinks owners owned_now) (gets : Gets n part.assignments masks held_now) (apart : AreApart parts) where
  same_part : (q : CutPart) (p : ℕ) → p ≡ n → slice_get parts p ≡ Some q → q ≡ part
  same_part q p e is = one_of q part (sym is ∙ (ap (slice_get parts) e ∙ there))
    where
      one_of : (a b : CutPart) → Some a ≡ Some b → a ≡ b
      one_of a b e = cc

  earlier : (p : ℕ) → p < n + 1 → p ≢ n → p < n
  earlier p lt d = ⊎_elim (λ less. less) (λ ge. absurd (d (omega (arith, lt, ge)))) (cases_lt p n)

  pub parted_more : AreParted (n + 1) parts owned_now held_now
  parted_more = record {
    owned = λ p q lt e k c. ⊎_elim
        (λ same. owns.got k (subst (λ (z : CutPart). Contains z.sinks k) (same_part q p same e) c) ∙ sym same)
        (λ d. owns.others k (λ f. d (apart p n k q part e there c f)) ∙ h.owned p q (earlier p lt d) e k c)
        (cases_eq p n);
    holding = λ p q lt e x c. ⊎_elim
        (λ same. subst (λ z. holds held_now z x ≡ true) (sym same) (gets.got x (subst (λ (z : CutPart). Contains z.assignments x) (same_part q p same e) c)))
        (λ d. gets.others p x d ∙ h.holding p q (earlier p lt d) e x c)
        (cases_eq p n);
    held = λ p q lt e x t. ⊎_elim
        (λ same. subst (λ (z : CutPart). Contains z.assignments x) (sym (same_part q p same e))
        (⊎_elim (λ c. c) (λ old. absurd (both_ways (holds masks n x) old (h.none n x (omega arith)))) (gets.only x (subst (λ z. holds held_now z x ≡ true) same t))))
        (λ d. h.held p q (earlier p lt d) e x (sym (gets.others p x d) ∙ t))
        (cases_eq p n);
    none = λ p x le. gets.others p x (λ e. omega (arith, e, le)) ∙ h.none p x (omega (arith, le));
  }

pub costs_more : (parts : List CutPart) (n : ℕ) (part : CutPart) (before now : List ℕ) (cost : ℕ) → n < length parts → part ≡ get_or parts n part → before ≡ map (λ (p : CutPart). length p.assignments) (take n parts)
    → cost ≡ length part.assignments → now ≡ before ++ cost ∷ [] → now ≡ map (λ (p : CutPart). length p.assignments) (take (n + 1) parts)
costs_more parts n part before now cost lt is h c e =
    let size : CutPart → ℕ = (λ p. length p.assignments) in
    let more = ap (map size) (take_more parts n part lt ∙ ap (λ p. take n parts ++ p ∷ []) (sym is)) ∙ map-append size (take n parts) (part ∷ []) in
    e ∙ (ap (λ l. l ++ cost ∷ []) h ∙ (ap (λ k. map (λ (p : CutPart). length p.assignments) (take n parts) ++ k ∷ []) c ∙ sym more))
