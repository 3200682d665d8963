-- After as many sweeps as there are leaves nothing changes any more.
use Rattle.std.proofs.Common.{◌≡◌, ℕ, zero, suc, ◌+◌, ◌<◌, ◌≤◌, List, [], ◌∷◌, length, refl, sym, ◌∙◌, subst, arith, ◌⊎◌, inl, inr, ⊎_elim}
use Rattle.std.specs.Prelude.{Contains}
use Rattle.fir_meaning.specs.Components.{Design, FlatLeaf}
use Rattle.fir_meaning.specs.States.{State, Inputs, IsLeafOf}
use Rattle.fir_meaning.specs.Loops.{ReadsThrough, directly, through, HasNoLoop, HasLeaves}
use Rattle.fir_meaning.proofs.Settling.{at}
use Rattle.settling_laws.specs.Sweeps.{swept}
use Rattle.settling_laws.proofs.Sound.{IsSound}
use Rattle.settling_laws.proofs.Following.{sweep_follows}

without : {A : Type 0} → ℕ → List A → List A
without k [] = []
without zero (x ∷ xs) = xs
without (suc k) (x ∷ xs) = x ∷ without k xs

shorter : {A : Type 0} (k : ℕ) (xs : List A) → k < length xs → length (without k xs) + 1 ≡ length xs
unfolding without
shorter k [] h = absurd (omega arith)
shorter zero (x ∷ xs) h = omega arith
shorter (suc k) (x ∷ xs) h = let rest : length (without k xs) + 1 ≡ length xs = shorter k xs (omega arith) in omega arith

stays : {A : Type 0} (xs : List A) (x y : A) (at : Contains xs x) → Contains xs y → ¬ (x ≡ y) → Contains (without at.0 xs) y
unfolding without
stays [] x y (k, below, is) c differ = absurd (omega arith)
stays (z ∷ zs) x y (zero, below, is) (zero, here, same) differ = absurd (differ (sym is ∙ same))
stays (z ∷ zs) x y (zero, below, is) (suc j, here, same) differ = (j, omega arith, same)
stays (z ∷ zs) x y (suc k, below, is) (zero, here, same) differ = (0, omega arith, same)
stays (z ∷ zs) x y (suc k, below, is) (suc j, here, same) differ =
    let rest = stays zs x y (k, omega arith, is) (j, omega arith, same) differ in
    (suc rest.0, omega arith, rest.2)

-- the leaf itself, or what it reads through others
abbrev Reaches : Design → FlatLeaf → FlatLeaf → Type 0
Reaches design x y = (x ≡ y) ⊎ ReadsThrough design x y

stands_through : (design : Design) (all : List FlatLeaf) → HasLeaves design all → (x y : FlatLeaf) → ReadsThrough design x y → IsLeafOf design y
stands_through design all has x y (directly r) = has.closed x y r
stands_through design all has x y (through {y = z} r later) = stands_through design all has z y later

module _ (design : Design) (sound : IsSound design) (none : HasNoLoop design) (all : List FlatLeaf) (leaves_of : HasLeaves design all) (s : State) (given : Inputs) where
  -- a leaf that reaches no more than n leaves is steady after n sweeps
  steady_within : (n : ℕ) (rest : List FlatLeaf) → length rest ≤ n → (x : FlatLeaf) → IsLeafOf design x → ((y : FlatLeaf) → Reaches design x y → Contains rest y)
      → (j k : ℕ) → n ≤ j → n ≤ k → at (swept design s given j) x ≡ at (swept design s given k) x
  steady_within zero rest short x l reached j k first second =
      let place = reached x (inl refl) in
      absurd (let below : place.0 < length rest = place.1 in omega arith)
  steady_within (suc n) rest short x l reached zero k first second = absurd (omega arith)
  steady_within (suc n) rest short x l reached (suc j) zero first second = absurd (omega arith)
  steady_within (suc n) rest short x l reached (suc j) (suc k) first second =
      let place = reached x (inl refl) in
      let below : place.0 < length rest = place.1 in
      let less : length (without place.0 rest) + 1 ≡ length rest = shorter place.0 rest below in
      sweep_follows design sound s given (swept design s given j) (swept design s given k) x l
      (λ y reads. steady_within n (without place.0 rest) (omega arith) y (leaves_of.closed x y reads)
      (λ z reach.
      let through_y : ReadsThrough design x z = ⊎_elim (λ same. subst (ReadsThrough design x) same (directly reads)) (λ later. through reads later) reach in
      stays rest x z place (reached z (inr through_y)) (λ same. none.none x (subst (ReadsThrough design x) (sym same) through_y)))
      j k (omega arith) (omega arith))

  -- One sweep more changes nothing.
  pub steady : (x : FlatLeaf) → IsLeafOf design x → at (swept design s given (length all)) x ≡ at (swept design s given (suc (length all))) x
  steady x l =
      steady_within (length all) all (omega arith) x l
      (λ y reach. leaves_of.listed y (⊎_elim (λ same. subst (IsLeafOf design) same l) (λ later. stands_through design all leaves_of x y later) reach))
      (length all) (suc (length all)) (omega arith) (omega arith)
