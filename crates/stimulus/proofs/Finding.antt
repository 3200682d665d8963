-- What names stand for, name by name.
use Rattle.std.proofs.Common.{◌≡◌, ℕ, suc, ◌+◌, ◌<◌, ◌≤◌, Bool, true, false, ◌||◌, not, cond, eqb, ltb, List, [], ◌∷◌, ◌++◌, length, take, get_or, Some, Option, refl, sym, ap, ◌∙◌, arith, ⊎_elim}
use Rattle.std.specs.Prelude.{None, position}
use Rattle.std.specs.List.{list_any, position_or_len, prefix_len}
use Rattle.std.specs.Map.{update}
use Rattle.std.specs.Str.{bytes_eq}
use Rattle.std.proofs.lemmas.Bool.{cases_lt}
use Rattle.std.proofs.lemmas.Bool.Decides.{same_from_decides, nat_tests, Decides-like}
use Rattle.std.proofs.lemmas.List.{length_push, take_more}
use Rattle.std.proofs.lemmas.List.Folds.{list_any-append, position_or_len_push}
use Rattle.std.proofs.lemmas.List.Quantifiers.{position-Some}
use Rattle.std.proofs.lemmas.Slice.Eq.{bytes_eq-Decides}
use Rattle.ground_net.specs.declared.net.PortLeaf.{PortLeaf}
use Rattle.stimulus.specs.declared.names.NamedLeaf.{NamedLeaf}
use Rattle.stimulus.specs.declared.names.NamedLeaf.TheVariants.{Input, Other}
use Rattle.stimulus.specs.Naming.{named_as, named_in, is_other}

pub bytes_eq-symm : (xs ys : List ℕ) → bytes_eq xs ys ≡ bytes_eq ys xs
bytes_eq-symm xs ys = same_from_decides (bytes_eq xs ys) (bytes_eq ys xs) (bytes_eq-Decides xs ys) (Decides-like (bytes_eq ys xs) sym sym (bytes_eq-Decides ys xs))

pub same_bytes : (xs ys : List ℕ) → bytes_eq xs ys ≡ true → xs ≡ ys
same_bytes xs ys h = (bytes_eq-Decides xs ys).0 h

-- one more name
pub name_more : (names : List (List ℕ)) (name q : List ℕ) → update bytes_eq (named_in names []) name (Some Other) q ≡ named_in (names ++ name ∷ []) [] q
name_more names name q =
    by (bytes_eq q name) (list_any (λ other. bytes_eq q other) names) (bytes_eq-symm name q) ∙ ap (λ b. cond b (Some Other) None) (sym (list_any-append (λ other. bytes_eq q other) names (name ∷ [])))
  where
    by : (same among : Bool) → bytes_eq name q ≡ same → cond (bytes_eq name q) (Some Other) (cond among (Some Other) None) ≡ cond (among || (same || false)) (Some Other) None
    by true true e = grind (arith, e)
    by true false e = grind (arith, e)
    by false true e = grind (arith, e)
    by false false e = grind (arith, e)

prefix_len-le : {X : Type 0} (p : X → Bool) (xs : List X) → prefix_len p xs ≤ length xs
prefix_len-le p [] = omega arith
prefix_len-le p (x ∷ xs) = by (p x) (prefix_len-le p xs)
  where
    by : (v : Bool) → prefix_len p xs ≤ length xs → cond v (1 + prefix_len p xs) 0 ≤ suc (length xs)
    by true h = omega (arith, h)
    by false h = omega arith

-- the first place in a list with one more element
position_push : {X : Type 0} (p : X → Bool) (xs : List X) (y : X)
    → position p (xs ++ y ∷ []) ≡ cond (ltb (position_or_len p xs) (length xs)) (Some (position_or_len p xs)) (cond (p y) (Some (length xs)) None)
position_push p xs y =
    let e = position_or_len_push p xs y in
    let l = length_push xs y in
    ap (λ n. cond (ltb n (length (xs ++ y ∷ []))) (Some n) None) e ∙ ap (λ n. cond (ltb (cond (eqb at (length xs)) (length xs + cond (p y) 0 1) at) n) (Some (cond (eqb at (length xs)) (length xs + cond (p y) 0 1) at)) None) l
    ∙ ⊎_elim inside (λ ge. outside (omega (arith, ge, prefix_len-le (λ x. not (p x)) xs)) (p y)) (cases_lt at (length xs))
  where
    at : ℕ
    at = position_or_len p xs

    inside : at < length xs
        → cond (ltb (cond (eqb at (length xs)) (length xs + cond (p y) 0 1) at) (length xs + 1)) (Some (cond (eqb at (length xs)) (length xs + cond (p y) 0 1) at)) None
        ≡ cond (ltb at (length xs)) (Some at) (cond (p y) (Some (length xs)) None)
    inside h = grind (arith, nat_tests, h)

    outside : at ≡ length xs → (v : Bool)
        → cond (ltb (cond (eqb at (length xs)) (length xs + cond v 0 1) at) (length xs + 1)) (Some (cond (eqb at (length xs)) (length xs + cond v 0 1) at)) None
        ≡ cond (ltb at (length xs)) (Some at) (cond v (Some (length xs)) None)
    outside e true = grind (arith, nat_tests, e)
    outside e false = grind (arith, nat_tests, e)

-- an input of another name changes nothing of a name
pub input_other : (names : List (List ℕ)) (inputs : List PortLeaf) (leaf : PortLeaf) (q : List ℕ) → bytes_eq q leaf.name ≡ false → named_in names (inputs ++ leaf ∷ []) q ≡ named_in names inputs q
input_other names inputs leaf q other =
    ap (λ o. cond (list_any (λ other. bytes_eq q other) names) (Some (named_as o)) None)
    (position_push (λ l. bytes_eq q l.name) inputs leaf ∙ ap (λ b. cond (ltb (position_or_len (λ l. bytes_eq q l.name) inputs) (length inputs)) (Some (position_or_len (λ l. bytes_eq q l.name) inputs)) (cond b (Some (length inputs)) None)) other)

-- an input of the name is what the name stands for, where it was no input before
pub input_new : (names : List (List ℕ)) (inputs : List PortLeaf) (leaf : PortLeaf) (q : List ℕ) → bytes_eq q leaf.name ≡ true
    → named_in names (inputs ++ leaf ∷ []) q ≡ cond (is_other (named_in names inputs q)) (Some (Input (length inputs))) (named_in names inputs q)
input_new names inputs leaf q same =
    ap (λ o. cond (list_any (λ other. bytes_eq q other) names) (Some (named_as o)) None)
    (position_push (λ l. bytes_eq q l.name) inputs leaf ∙ ap (λ b. cond (ltb (position_or_len (λ l. bytes_eq q l.name) inputs) (length inputs)) (Some (position_or_len (λ l. bytes_eq q l.name) inputs)) (cond b (Some (length inputs)) None)) same)
    ∙ by (list_any (λ other. bytes_eq q other) names) (ltb (position_or_len (λ l. bytes_eq q l.name) inputs) (length inputs)) (position_or_len (λ l. bytes_eq q l.name) inputs) (length inputs)
  where
    by : (among inside : Bool) (at size : ℕ) → cond among (Some (named_as (cond inside (Some at) (Some size)))) None
        ≡ cond (is_other (cond among (Some (named_as (cond inside (Some at) None))) None)) (Some (Input size)) (cond among (Some (named_as (cond inside (Some at) None))) None)
    by true true at size = refl
    by true false at size = refl
    by false true at size = refl
    by false false at size = refl

-- a name that stands for no input
pub input_kept : (names : List (List ℕ)) (inputs : List PortLeaf) (leaf : PortLeaf) (q : List ℕ) → is_other (named_in names inputs leaf.name) ≡ false
    → named_in names (inputs ++ leaf ∷ []) q ≡ named_in names inputs q
input_kept names inputs leaf q kept = by (bytes_eq q leaf.name) refl
  where
    by : (v : Bool) → bytes_eq q leaf.name ≡ v → named_in names (inputs ++ leaf ∷ []) q ≡ named_in names inputs q
    by false e = input_other names inputs leaf q e
    by true e =
        let here : is_other (named_in names inputs q) ≡ false = ap (λ n. is_other (named_in names inputs n)) (same_bytes q leaf.name e) ∙ kept in
        input_new names inputs leaf q e ∙ ap (λ b. cond b (Some (Input (length inputs))) (named_in names inputs q)) here

pub input_added : (names : List (List ℕ)) (inputs : List PortLeaf) (leaf : PortLeaf) (q : List ℕ) → is_other (named_in names inputs leaf.name) ≡ true
    → update bytes_eq (named_in names inputs) leaf.name (Some (Input (length inputs))) q ≡ named_in names (inputs ++ leaf ∷ []) q
input_added names inputs leaf q new = by (bytes_eq q leaf.name) refl
  where
    by : (v : Bool) → bytes_eq q leaf.name ≡ v → cond (bytes_eq leaf.name q) (Some (Input (length inputs))) (named_in names inputs q) ≡ named_in names (inputs ++ leaf ∷ []) q
    by false e = ap (λ b. cond b (Some (Input (length inputs))) (named_in names inputs q)) (bytes_eq-symm leaf.name q ∙ e) ∙ sym (input_other names inputs leaf q e)
    by true e =
        let here : is_other (named_in names inputs q) ≡ true = ap (λ n. is_other (named_in names inputs n)) (same_bytes q leaf.name e) ∙ new in
        ap (λ b. cond b (Some (Input (length inputs))) (named_in names inputs q)) (bytes_eq-symm leaf.name q ∙ e)
        ∙ sym (input_new names inputs leaf q e ∙ ap (λ b. cond b (Some (Input (length inputs))) (named_in names inputs q)) here)

-- the next ones of lists
pub next_name : (names : List (List ℕ)) (i : ℕ) (name q : List ℕ) → i < length names → name ≡ get_or names i name
    → update bytes_eq (named_in (take i names) []) name (Some Other) q ≡ named_in (take (i + 1) names) [] q
next_name names i name q lt e = name_more (take i names) name q ∙ ap (λ ns. named_in ns [] q) (sym (take_more names i name lt ∙ ap (λ n. take i names ++ n ∷ []) (sym e)))

pub next_inputs : (inputs : List PortLeaf) (i : ℕ) (leaf : PortLeaf) → i < length inputs → leaf ≡ get_or inputs i leaf → take (i + 1) inputs ≡ take i inputs ++ leaf ∷ []
next_inputs inputs i leaf lt e = take_more inputs i leaf lt ∙ ap (λ l. take i inputs ++ l ∷ []) (sym e)

pub named_within : (names : List (List ℕ)) (inputs : List PortLeaf) (q : List ℕ) (n : ℕ) → named_in names inputs q ≡ Some (Input n) → (list_any (λ other. bytes_eq q other) names ≡ true) × (position (λ leaf. bytes_eq q leaf.name) inputs ≡ Some n)
named_within names inputs q n e = by (list_any (λ other. bytes_eq q other) names) (position (λ leaf. bytes_eq q leaf.name) inputs) e
  where
    by : (among : Bool) (at : Option ℕ) → cond among (Some (named_as at)) None ≡ Some (Input n) → (among ≡ true) × (at ≡ Some n)
    by true (Some m) e = (refl, cc)
    by true None e = cc
    by false at e = cc

pub named_other : (names : List (List ℕ)) (inputs : List PortLeaf) (q : List ℕ) → named_in names inputs q ≡ Some Other → (list_any (λ other. bytes_eq q other) names ≡ true) × (position (λ leaf. bytes_eq q leaf.name) inputs ≡ None)
named_other names inputs q e = by (list_any (λ other. bytes_eq q other) names) (position (λ leaf. bytes_eq q leaf.name) inputs) e
  where
    by : (among : Bool) (at : Option ℕ) → cond among (Some (named_as at)) None ≡ Some Other → (among ≡ true) × (at ≡ None)
    by true (Some m) e = cc
    by true None e = (refl, refl)
    by false at e = cc

pub named_none : (names : List (List ℕ)) (inputs : List PortLeaf) (q : List ℕ) → named_in names inputs q ≡ None → list_any (λ other. bytes_eq q other) names ≡ false
named_none names inputs q e = by (list_any (λ other. bytes_eq q other) names) (position (λ leaf. bytes_eq q leaf.name) inputs) e
  where
    by : (among : Bool) (at : Option ℕ) → cond among (Some (named_as at)) None ≡ None → among ≡ false
    by true at e = cc
    by false at e = refl

-- the first place is in the list, and the name there is the name
pub position_at : (inputs : List PortLeaf) (q : List ℕ) (n : ℕ) (leaf : PortLeaf) → position (λ leaf. bytes_eq q leaf.name) inputs ≡ Some n → (n < length inputs) × (q ≡ (get_or inputs n leaf).name)
position_at inputs q n leaf e = let t = position-Some (λ l. bytes_eq q l.name) inputs n leaf e in (t.0, same_bytes q (get_or inputs n leaf).name t.1)

pub position_within : (inputs : List PortLeaf) (q : List ℕ) (n : ℕ) → position (λ leaf. bytes_eq q leaf.name) inputs ≡ Some n → n < length inputs
position_within inputs q n e = by (ltb (position_or_len (λ l. bytes_eq q l.name) inputs) (length inputs)) refl e
  where
    by : (v : Bool) → ltb (position_or_len (λ l. bytes_eq q l.name) inputs) (length inputs) ≡ v → cond v (Some (position_or_len (λ l. bytes_eq q l.name) inputs)) None ≡ Some n → n < length inputs
    by true t e = let same : position_or_len (λ l. bytes_eq q l.name) inputs ≡ n = cc in grind (arith, nat_tests, same, t)
    by false t e = cc

pub update_under : (f g : List ℕ → Option NamedLeaf) (name : List ℕ) (leaf : Option NamedLeaf) (q : List ℕ) → f q ≡ g q → update bytes_eq f name leaf q ≡ update bytes_eq g name leaf q
update_under f g name leaf q e = ap (λ o. cond (bytes_eq name q) leaf o) e
