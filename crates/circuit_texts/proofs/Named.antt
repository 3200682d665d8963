-- The first leaf of a name.
use Rattle.std.proofs.Common.{◌≡◌, ◌≢◌, ℕ, zero, suc, ◌+◌, ◌<◌, ◌&&◌, Bool, true, false, cond, List, [], ◌∷◌, length, Option, Some, None, Result, Ok, Err, refl, sym, ap, subst, ◌∙◌, arith, true≢false}
use Rattle.std.specs.Prelude.{slice_get, All, IfOk, IfSome, IfNone}
use Rattle.std.specs.List.{position_from, AllZip}
use Rattle.std.specs.Str.{bytes_eq}
use Rattle.std.proofs.lemmas.Slice.Eq.{bytes_eq-Decides}
use Rattle.std.proofs.lemmas.Option.{slice_get_within}
use Rattle.ground_net.specs.declared.net.Leaf.{Leaf}
use Rattle.ground_net.specs.declared.net.Net.{Net}
use Rattle.ground_net.specs.declared.net.Role.{Role}
use Rattle.ground_net.specs.declared.net.Role.TheVariants as role
use Rattle.ground_net.specs.Naming.{IsNamed, IsFirstNamed}
use Rattle.net_laws.proofs.Numbers.{some_same, none_some}
use Rattle.circuit_texts.specs.NetNames.{NamesNone, is_valued, is_named}
use Rattle.circuit_texts.proofs.Zips.{zip_all, zip_weaken, among_at}

clock_is : (r : Role) → is_valued r ≡ false → r ≡ role.Clock
clock_is (role.Input n) e = absurd (true≢false e)
clock_is role.Clock e = refl
clock_is role.Assigned e = absurd (true≢false e)
clock_is (role.Register n) e = absurd (true≢false e)
clock_is (role.Captured n) e = absurd (true≢false e)

named_yes : (name : List ℕ) (leaf : Leaf) → is_named name leaf ≡ true → (leaf.name ≡ name) × (leaf.role ≢ role.Clock)
named_yes name leaf e = both (is_valued leaf.role) (bytes_eq leaf.name name) refl refl e where
  both : (a b : Bool) → is_valued leaf.role ≡ a → bytes_eq leaf.name name ≡ b → (a && b) ≡ true → (leaf.name ≡ name) × (leaf.role ≢ role.Clock)
  both true true v n e = ((bytes_eq-Decides leaf.name name).0 n, λ h. true≢false (sym v ∙ ap is_valued h))
  both true false v n e = absurd (true≢false (sym e))
  both false b v n e = absurd (true≢false (sym e))

named_no : (name : List ℕ) (leaf : Leaf) → is_named name leaf ≡ false → leaf.name ≡ name → leaf.role ≢ role.Clock → ⊥
named_no name leaf e n valued = both (is_valued leaf.role) refl e where
  both : (a : Bool) → is_valued leaf.role ≡ a → (a && bytes_eq leaf.name name) ≡ false → ⊥
  both true v e = true≢false (sym ((bytes_eq-Decides leaf.name name).1 n) ∙ e)
  both false v e = valued (clock_is leaf.role v)

-- the first item that passes
record Found (T : Leaf → Bool) (xs : List Leaf) (i x : ℕ) : Type 0 where
  pub k : ℕ
  pub at : x ≡ i + k
  pub leaf : Leaf
  pub there : slice_get xs k ≡ Some leaf
  pub is : T leaf ≡ true
  pub before : (j : ℕ) (y : Leaf) → j < k → slice_get xs j ≡ Some y → T y ≡ false

found_from : (T : Leaf → Bool) (xs : List Leaf) (i x : ℕ) → position_from T i xs ≡ Some x → Found T xs i x
found_from T [] i x e = none_some e
found_from T (y ∷ xs) i x e = by (T y) refl e (found_from T xs (i + 1) x) where
  earlier : (r : Found T xs (i + 1) x) → T y ≡ false → (j : ℕ) (z : Leaf) → j < suc r.k → slice_get (y ∷ xs) j ≡ Some z → T z ≡ false
  earlier r h zero z lt e = ap T (sym (some_same e)) ∙ h
  earlier r h (suc j) z lt e = r.before j z (omega arith) e

  by : (b : Bool) → T y ≡ b → cond b (Some i) (position_from T (i + 1) xs) ≡ Some x → (position_from T (i + 1) xs ≡ Some x → Found T xs (i + 1) x) → Found T (y ∷ xs) i x
  by true h e later =
      let same : i ≡ x = some_same e in
      record { k = 0; at = omega arith; leaf = y; there = refl; is = h; before = λ j z lt f. absurd (omega arith) }
  by false h e later =
      let r = later e in
      let at = r.at in
      record { k = suc r.k; at = omega (arith, at); leaf = r.leaf; there = r.there; is = r.is; before = earlier r h }

absent_from : (T : Leaf → Bool) (xs : List Leaf) (i : ℕ) → position_from T i xs ≡ None → (k : ℕ) (y : Leaf) → slice_get xs k ≡ Some y → T y ≡ false
absent_from T [] i e k y f = none_some f
absent_from T (z ∷ xs) i e k y f = by (T z) refl e k f (absent_from T xs (i + 1)) where
  by : (b : Bool) → T z ≡ b → cond b (Some i) (position_from T (i + 1) xs) ≡ None → (k : ℕ) → slice_get (z ∷ xs) k ≡ Some y
      → (position_from T (i + 1) xs ≡ None → (k : ℕ) (y : Leaf) → slice_get xs k ≡ Some y → T y ≡ false) → T y ≡ false
  by true h e k f later = none_some (sym e)
  by false h e zero f later = ap T (sym (some_same f)) ∙ h
  by false h e (suc k) f later = later e k y f

pub first_is : (net : Net) (name : List ℕ) (x : ℕ) → position_from (is_named name) 0 net.leaves ≡ Some x → IsFirstNamed net name x
first_is net name x e =
    let f = found_from (is_named name) net.leaves 0 x e in
    let at = f.at in
    let same : f.k ≡ x = omega (arith, at) in
    let yes = named_yes name f.leaf f.is in
    record {
      is = record { leaf = f.leaf; there = subst (λ n. slice_get net.leaves n ≡ Some f.leaf) same f.there; named = yes.0; valued = yes.1 };
      first = λ y lt named. named_no name named.leaf (f.before y named.leaf (subst (λ n. y < n) (sym same) lt) named.there) named.named named.valued;
    }

pub none_is : (net : Net) (name : List ℕ) → position_from (is_named name) 0 net.leaves ≡ None → (x : ℕ) → IsNamed net name x → ⊥
none_is net name e x named = named_no name named.leaf (absent_from (is_named name) net.leaves 0 e x named.leaf named.there) named.named named.valued

-- Lists of names

pub numbers_within : (net : Net) (names : List (List ℕ)) (numbers : List ℕ) → AllZip (IsFirstNamed net) names numbers → All (λ x. x < length net.leaves) numbers
numbers_within net names numbers all =
    zip_all (IsFirstNamed net) (λ x. x < length net.leaves) (λ name x f. slice_get_within net.leaves x f.is.leaf f.is.there) names numbers all

pub none_of : (net : Net) (names : List (List ℕ)) (k : ℕ) (name : List ℕ) → slice_get names k ≡ Some name → position_from (is_named name) 0 net.leaves ≡ None → NamesNone net names
none_of net names k name e f = record { name = name; among = among_at names k name e; none = none_is net name f }

-- Answers

pub ok_some : {A E : Type 0} {P Q : A → Type 0} (r : Result (Option A) E) → IfOk r (λ o. IfSome o P) → ((a : A) → P a → Q a) → IfOk r (λ o. IfSome o Q)
ok_some (Ok (Some a)) h f = f a h
ok_some (Ok None) h f = tt
ok_some (Err e) h f = tt

pub ok_none : {A E : Type 0} {P Q : Type 0} (r : Result (Option A) E) → IfOk r (λ o. IfNone o P) → (P → Q) → IfOk r (λ o. IfNone o Q)
ok_none (Ok (Some a)) h f = tt
ok_none (Ok None) h f = f h
ok_none (Err e) h f = tt

-- where names are looked up by their first leaves
module _ (net : Net) (names : List (List ℕ)) (get : List ℕ → Option ℕ) (gives : (name : List ℕ) → get name ≡ position_from (is_named name) 0 net.leaves) where
  pub all_found : (numbers : List ℕ) → AllZip (λ name x. get name ≡ Some x) names numbers → AllZip (IsFirstNamed net) names numbers
  all_found numbers all = zip_weaken (λ name x. get name ≡ Some x) (IsFirstNamed net) (λ name x e. first_is net name x (sym (gives name) ∙ e)) names numbers all

  pub one_missing : (k : ℕ) × (name : List ℕ) × (slice_get names k ≡ Some name) × (get name ≡ None) → NamesNone net names
  one_missing (k, name, e, f) = none_of net names k name e (sym (gives name) ∙ f)
