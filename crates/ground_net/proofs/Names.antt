-- The first leaf of a name.
use Rattle.std.proofs.Common.{◌≡◌, ℕ, ◌+◌, ◌<◌, ◌≤◌, ◌↔◌, List, length, ap, subst, arith, Some, None}
use Rattle.std.proofs.lemmas.Option.{slice_get_within}
use Rattle.ground_net.specs.declared.net.Net.{Net}
use Rattle.ground_net.specs.Naming.{IsNamed, IsFirstNamed}

module _ (net : Net) (name : List ℕ) where
  abbrev pub NoneBelow : ℕ → Type 0
  NoneBelow n = (y : ℕ) → y < n → IsNamed net name y → ⊥

  pub first_is : (n : ℕ) → IsNamed net name n → NoneBelow n → (x : ℕ) → (Some n ≡ Some x) ↔ IsFirstNamed net name x
  first_is n is below x = (λ e. let same : n ≡ x = cc in subst (IsFirstNamed net name) same (record { is = is; first = below }), λ first. ap Some (one first))
    where
      one : IsFirstNamed net name x → n ≡ x
      one first =
          let low : n < x → ⊥ = λ h. first.first n h is in
          let high : x < n → ⊥ = λ h. below x h first.is in
          omega (arith, low, high)

  pub is_one : (n : ℕ) → IsNamed net name n → (Some n ≡ None) ↔ ((x : ℕ) → IsNamed net name x → ⊥)
  is_one n is = (λ e. cc, λ none. absurd (none n is))

  pub below_more : (n : ℕ) → (IsNamed net name n → ⊥) → NoneBelow n → NoneBelow (n + 1)
  below_more n lacks below y h is = by_place
    where
      same : (y ≡ n) → ⊥
      same e = lacks (subst (IsNamed net name) e is)

      less : y < n → ⊥
      less l = below y l is

      by_place : ⊥
      by_place = omega (arith, same, less, h)

  pub nowhere : (n : ℕ) → length net.leaves ≤ n → NoneBelow n → (x : ℕ) → IsNamed net name x → ⊥
  nowhere n all below x is = below x (let h = slice_get_within net.leaves x is.leaf is.there in omega (arith, h, all)) is
