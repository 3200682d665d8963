-- Where no leaf reads itself through others, and the leaves are finitely many, every chain of reads ends.
use Rattle.std.proofs.Common.{◌≡◌, ℕ, zero, suc, ◌+◌, ◌<◌, ◌≤◌, List, [], ◌∷◌, length, refl, sym, ◌∙◌, subst, arith, ◌⊎◌, inl, inr, ⊎_elim}
use Rattle.std.specs.Prelude.{Contains}
use Rattle.fir_meaning.specs.Components.{Design, FlatLeaf}
use Rattle.fir_meaning.specs.States.{IsLeafOf}
use Rattle.fir_meaning.specs.Loops.{ReadsLeaf, ReadsThrough, directly, through, HasNoLoop, HasLeaves}

-- Every chain of reads from the leaf ends.
pub data Ends (design : Design) : FlatLeaf → Type 0 where
  ends : {x : FlatLeaf} → ((y : FlatLeaf) → ReadsLeaf design x y → Ends design y) → Ends design x

without : {A : Type 0} → ℕ → List A → List A
without k [] = []
without zero (x ∷ xs) = xs
without (suc k) (x ∷ xs) = x ∷ without k xs

shorter : {A : Type 0} (k : ℕ) (xs : List A) → k < length xs → length (without k xs) + 1 ≡ length xs
unfolding without
shorter k [] h = absurd (omega arith)
shorter zero (x ∷ xs) h = omega arith
shorter (suc k) (x ∷ xs) h = let rest : length (without k xs) + 1 ≡ length xs = shorter k xs (omega arith) in omega arith

stays : {A : Type 0} (xs : List A) (x y : A) (at : Contains xs x) → Contains xs y → ¬ (x ≡ y) → Contains (without at.0 xs) y
unfolding without
stays [] x y (k, below, is) c differ = absurd (omega arith)
stays (z ∷ zs) x y (zero, below, is) (zero, here, same) differ = absurd (differ (sym is ∙ same))
stays (z ∷ zs) x y (zero, below, is) (suc j, here, same) differ = (j, omega arith, same)
stays (z ∷ zs) x y (suc k, below, is) (zero, here, same) differ = (0, omega arith, same)
stays (z ∷ zs) x y (suc k, below, is) (suc j, here, same) differ =
    let rest = stays zs x y (k, omega arith, is) (j, omega arith, same) differ in
    (suc rest.0, omega arith, rest.2)

-- the leaf itself, or what it reads through others
abbrev Reaches : Design → FlatLeaf → FlatLeaf → Type 0
Reaches design x y = (x ≡ y) ⊎ ReadsThrough design x y

ends_within : (design : Design) → HasNoLoop design → (n : ℕ) (rest : List FlatLeaf) → length rest ≤ n → (x : FlatLeaf)
    → ((y : FlatLeaf) → Reaches design x y → Contains rest y) → Ends design x
ends_within design none zero rest short x all = let at = all x (inl refl) in absurd (let below : at.0 < length rest = at.1 in omega arith)
ends_within design none (suc n) rest short x all =
    let at = all x (inl refl) in
    let below : at.0 < length rest = at.1 in
    let less : length (without at.0 rest) + 1 ≡ length rest = shorter at.0 rest below in
    ends (λ y reads. ends_within design none n (without at.0 rest) (omega arith) y
    (λ z reach.
    let through_y : ReadsThrough design x z = ⊎_elim (λ same. subst (ReadsThrough design x) same (directly reads)) (λ later. through reads later) reach in
    stays rest x z at (all z (inr through_y)) (λ same. none.none x (subst (ReadsThrough design x) (sym same) through_y))))

stands_through : (design : Design) (all : List FlatLeaf) → HasLeaves design all → (x y : FlatLeaf) → ReadsThrough design x y → IsLeafOf design y
stands_through design all has x y (directly r) = has.closed x y r
stands_through design all has x y (through {y = z} r later) = stands_through design all has z y later

pub chains_end : (design : Design) (all : List FlatLeaf) → HasNoLoop design → HasLeaves design all → (x : FlatLeaf) → IsLeafOf design x → Ends design x
chains_end design all none has x stands =
    ends_within design none (length all) all (omega arith) x
    (λ y reach. has.listed y (⊎_elim (λ same. subst (IsLeafOf design) same stands) (λ later. stands_through design all has x y later) reach))
