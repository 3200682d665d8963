-- Lists whose items stand beside each other.
use Rattle.std.proofs.Common.{◌≡◌, ℕ, zero, suc, ◌+◌, ◌<◌, ◌≤◌, Bool, true, false, true≢false, List, [], ◌∷◌, ◌++◌, map, length, take, get_or, Some, if◌then◌else◌, refl, sym, ap, ◌∙◌, subst, arith}
use Rattle.std.specs.Prelude.{Contains}
use Rattle.std.proofs.lemmas.List.{take_more}
use Rattle.fir_meaning.proofs.Ports.{one_later}
use Rattle.drive_check.proofs.Telling.{none_in}
use Rattle.plain_cycle.proofs.Lists.{take_past}
use Rattle.plain_cycle.specs.Firsts.{first_beside}
use Rattle.plain_cycle.specs.Edges.{Beside}

module _ {A B : Type 0} (P : A → B → Type 0) where
  joined : (xs : List A) (ys : List B) (x : A) (y : B) → Beside P xs ys → P x y → Beside P (xs ++ x ∷ []) (ys ++ y ∷ [])
  joined [] [] x y b h = (h, tt)
  joined [] (z ∷ ys) x y b h = absurd b
  joined (w ∷ xs) [] x y b h = absurd b
  joined (w ∷ xs) (z ∷ ys) x y b h = (b.0, joined xs ys x y b.1 h)

  -- one more
  pub beside_more : (xs : List A) (k : ℕ) (x : A) (before after : List B) (y : B) → k < length xs → x ≡ get_or xs k x → after ≡ before ++ y ∷ [] → P x y → Beside P (take k xs) before
      → Beside P (take (k + 1) xs) after
  beside_more xs k x before after y below is more h old =
      subst (λ l. Beside P l after) (sym (take_more xs k x below ∙ ap (λ z. take k xs ++ z ∷ []) (sym is)))
      (subst (Beside P (take k xs ++ x ∷ [])) (sym more) (joined (take k xs) before x y old h))

  pub beside_all : (xs : List A) (k : ℕ) (ys : List B) → length xs ≤ k → Beside P (take k xs) ys → Beside P xs ys
  beside_all xs k ys past b = subst (λ l. Beside P l ys) (take_past xs k past) b

  -- what is so of each two
  pub beside_weaker : (Q : A → B → Type 0) (xs : List A) (ys : List B) → ((x : A) (y : B) → Contains xs x → P x y → Q x y) → Beside P xs ys → Beside Q xs ys
  beside_weaker Q [] [] h b = b
  beside_weaker Q [] (y ∷ ys) h b = absurd b
  beside_weaker Q (x ∷ xs) [] h b = absurd b
  beside_weaker Q (x ∷ xs) (y ∷ ys) h b = (h x y (0, omega arith, refl) b.0, beside_weaker Q xs ys (λ z w c p. h z w (one_later x xs z c) p) b.1)

-- the first item that meets a test, with what stands beside it
pub record FirstMet {A B C : Type 0} (f : A → C) (test : C → Bool) (P : A → B → Type 0) (xs : List A) (ys : List B) : Type 0 where
  pub item : A
  pub other : B
  pub first : first_beside test (map f xs) ys ≡ Some (f item, other)
  pub met : test (f item) ≡ true
  pub among : Contains xs item
  pub beside : P item other

module _ {A B C : Type 0} (f : A → C) (test : C → Bool) (P : A → B → Type 0) where
  behind_one : (x : A) (xs : List A) (y : B) (ys : List B) → test (f x) ≡ false → FirstMet f test P xs ys → FirstMet f test P (x ∷ xs) (y ∷ ys)
  behind_one x xs y ys missed rest = record {
    item = rest.item;
    other = rest.other;
    first = ap (λ t. if t then Some (f x, y) else first_beside test (map f xs) ys) missed ∙ rest.first;
    met = rest.met;
    among = one_later x xs rest.item rest.among;
    beside = rest.beside;
  }

  pub first_met : (xs : List A) (ys : List B) (z : A) → Beside P xs ys → Contains xs z → test (f z) ≡ true → FirstMet f test P xs ys
  first_met [] ys z b c h = absurd (none_in z c)
  first_met (x ∷ xs) [] z b c h = absurd b
  first_met (x ∷ xs) (y ∷ ys) z b c h = by (test (f x)) refl c (λ rest. first_met xs ys z b.1 rest h)
    where
      by : (t : Bool) → test (f x) ≡ t → Contains (x ∷ xs) z → (Contains xs z → FirstMet f test P xs ys) → FirstMet f test P (x ∷ xs) (y ∷ ys)
      by true q c next = record {
        item = x;
        other = y;
        first = ap (λ t. if t then Some (f x, y) else first_beside test (map f xs) ys) q;
        met = q;
        among = (0, omega arith, refl);
        beside = b.0;
      }
      by false q (zero, below, is) next = absurd (true≢false (sym h ∙ (ap (λ w. test (f w)) (sym is) ∙ q)))
      by false q (suc k, below, is) next = behind_one x xs y ys q (next (k, omega (arith, below), is))

mapped_itself : {A : Type 0} (xs : List A) → map (λ x. x) xs ≡ xs
mapped_itself [] = refl
mapped_itself (x ∷ xs) = ap (λ l. x ∷ l) (mapped_itself xs)

-- the same where the items themselves are tested
pub met_itself : {A B : Type 0} (test : A → Bool) (P : A → B → Type 0) (xs : List A) (ys : List B) (m : FirstMet (λ x. x) test P xs ys) → first_beside test xs ys ≡ Some (m.item, m.other)
met_itself test P xs ys m = ap (λ l. first_beside test l ys) (sym (mapped_itself xs)) ∙ m.first
