-- A net has no loop, or a first leaf that is on one. Whether a leaf reads another through leaves of smaller numbers than k alone has an
-- answer, from k to the next.
use Rattle.std.proofs.Common.{◌≡◌, ℕ, zero, suc, ◌<◌, ◌⊎◌, inl, inr, ⊎_elim, List, [], ◌∷◌, length, refl, subst, arith}
use Rattle.std.specs.Prelude.{Contains}
use Rattle.std.proofs.lemmas.Bool.{cases_eq}
use Rattle.place_text.specs.declared.place.Place.{Place}
use Rattle.ground_net.specs.declared.net.Net.{Net}
use Rattle.ground_net.specs.Reads.{Reads, Through, itself, others, IsOnLoop, HasNoLoop, IsFirstLoop, direct_reads}
use Rattle.ground_net.proofs.Loops.{through_assigned}
use Rattle.net_laws.proofs.Numbers.{below_length}

not_later : (x : ℕ) (xs : List ℕ) (v : ℕ) → (x ≡ v → ⊥) → (Contains xs v → ⊥) → Contains (x ∷ xs) v → ⊥
not_later x xs v differ none (zero, below, is) = differ is
not_later x xs v differ none (suc k, below, is) = none (k, omega arith, is)

among_or_not : (s : List ℕ) (v : ℕ) → Contains s v ⊎ (Contains s v → ⊥)
among_or_not [] v = inr (λ h. omega (arith, h.1))
among_or_not (x ∷ xs) v = ⊎_elim (λ same. inl (0, omega arith, same))
    (λ differ. ⊎_elim (λ h. inl (suc h.0, omega (arith, h.1), h.2)) (λ none. inr (not_later x xs v differ none)) (among_or_not xs v)) (cases_eq x v)

-- a leaf reads another directly, or through leaves of smaller numbers than k
abbrev Below : Net → ℕ → ℕ → ℕ → Type 0
Below net zero a b = Reads net a b
Below net (suc k) a b = Below net k a b ⊎ (Below net k a k × Below net k k b)

module _ (net : Net) where
  either : (P Q R : Type 0) → P ⊎ (P → ⊥) → Q ⊎ (Q → ⊥) → R ⊎ (R → ⊥) → (P ⊎ (Q × R)) ⊎ ((P ⊎ (Q × R)) → ⊥)
  either P Q R (inl p) q r = inl (inl p)
  either P Q R (inr never) (inl q) (inl r) = inl (inr (q, r))
  either P Q R (inr never) (inl q) (inr none) = inr (λ h. ⊎_elim never (λ both. none both.1) h)
  either P Q R (inr never) (inr none) r = inr (λ h. ⊎_elim never (λ both. none both.0) h)

  below_or_not : (k a b : ℕ) → Below net k a b ⊎ (Below net k a b → ⊥)
  below_or_not zero a b = among_or_not (direct_reads net a) b
  below_or_not (suc k) a b = either (Below net k a b) (Below net k a k) (Below net k k b) (below_or_not k a b) (below_or_not k a k) (below_or_not k k b)

  -- Such a leaf is read, and what is read is so.
  joined : (a b c : ℕ) → Through net a b → Through net b c → Through net a c
  joined a b c (itself r) u = others r u
  joined a b c (others {b = v} r t) u = others r (joined v b c t u)

  sound : (k a b : ℕ) → Below net k a b → Through net a b
  sound zero a b r = itself r
  sound (suc k) a b (inl h) = sound k a b h
  sound (suc k) a b (inr r) = joined a k b (sound k a k r.0) (sound k k b r.1)

  up_to : (k a : ℕ) → Below net (suc k) a k → Below net k a k
  up_to k a (inl h) = h
  up_to k a (inr r) = r.0

  onward : (k b : ℕ) → Below net (suc k) k b → Below net k k b
  onward k b (inl h) = h
  onward k b (inr r) = r.1

  across : (k : ℕ) → ((a v b : ℕ) → v < k → Below net k a v → Below net k v b → Below net k a b) → (a v b : ℕ) → v < k → Below net (suc k) a v → Below net (suc k) v b → Below net (suc k) a b
  across k f a v b h (inl p) (inl q) = inl (f a v b h p q)
  across k f a v b h (inl p) (inr r) = inr (f a v k h p r.0, r.1)
  across k f a v b h (inr r) (inl q) = inr (r.0, f k v b h r.1 q)
  across k f a v b h (inr r) (inr s) = inr (r.0, s.1)

  further : (k : ℕ) → ((a v b : ℕ) → v < k → Below net k a v → Below net k v b → Below net k a b) → (a v b : ℕ) → v < suc k → Below net (suc k) a v → Below net (suc k) v b
      → (v ≡ k) ⊎ (v ≡ k → ⊥) → Below net (suc k) a b
  further k f a v b h p q (inl e) = inr (up_to k a (subst (λ z. Below net (suc k) a z) e p), onward k b (subst (λ z. Below net (suc k) z b) e q))
  further k f a v b h p q (inr n) = across k f a v b (omega (arith, h, n)) p q

  meets : (k a v b : ℕ) → v < k → Below net k a v → Below net k v b → Below net k a b
  meets zero a v b h p q = absurd (omega (arith, h))
  meets (suc k) a v b h p q = further k (λ x y z l r s. meets k x y z l r s) a v b h p q (cases_eq v k)

  at_once : (k a b : ℕ) → Reads net a b → Below net k a b
  at_once zero a b r = r
  at_once (suc k) a b r = inl (at_once k a b r)

  complete : (a b : ℕ) → Through net a b → Below net (length net.leaves) a b
  complete a b (itself r) = at_once (length net.leaves) a b r
  complete a b (others {b = v} r t) =
      let reader = through_assigned net v b t in
      meets (length net.leaves) a v b (below_length net.leaves v reader.leaf reader.there) (at_once (length net.leaves) a v r) (complete v b t)

  on_loop_or_not : (x : ℕ) → IsOnLoop net x ⊎ (IsOnLoop net x → ⊥)
  on_loop_or_not x = ⊎_elim (λ h. inl (sound (length net.leaves) x x h)) (λ never. inr (λ t. never (complete x x t))) (below_or_not (length net.leaves) x x)

  -- The first leaf on a loop
  record Earliest : Type 0 where
    at : ℕ
    here : IsOnLoop net at
    first : (y : ℕ) → y < at → IsOnLoop net y → ⊥

  search : (n : ℕ) → Earliest ⊎ ((x : ℕ) → x < n → IsOnLoop net x → ⊥)
  search zero = inr (λ x h t. omega (arith, h))
  search (suc n) = by (search n) (on_loop_or_not n) where
    by : Earliest ⊎ ((x : ℕ) → x < n → IsOnLoop net x → ⊥) → IsOnLoop net n ⊎ (IsOnLoop net n → ⊥) → Earliest ⊎ ((x : ℕ) → x < suc n → IsOnLoop net x → ⊥)
    by (inl e) loop = inl e
    by (inr none) (inl t) = inl (record { at = n; here = t; first = none })
    by (inr none) (inr never) = inr (λ x less t. ⊎_elim (λ e. never (subst (λ z. IsOnLoop net z) e t)) (λ differ. none x (omega (arith, less, differ)) t) (cases_eq x n))

  pub none_or_first : HasNoLoop net ⊎ ((place : Place) × IsFirstLoop net place)
  none_or_first = by (search (length net.leaves)) where
    by : Earliest ⊎ ((x : ℕ) → x < length net.leaves → IsOnLoop net x → ⊥) → HasNoLoop net ⊎ ((place : Place) × IsFirstLoop net place)
    by (inl e) =
        let reader = through_assigned net e.at e.at e.here in
        inr (reader.leaf.place, record { at = e.at; leaf = reader.leaf; there = reader.there; here = e.here; first = e.first; is = refl })
    by (inr none) = inl (record { none = λ x t. let reader = through_assigned net x x t in none x (below_length net.leaves x reader.leaf reader.there) t })
