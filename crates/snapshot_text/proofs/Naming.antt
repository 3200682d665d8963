-- Names in parts.
use Rattle.std.proofs.Common.{◌≡◌, ℕ, ◌+◌, ◌-◌, ◌<◌, ◌≤◌, Bool, true, false, List, [], ◌∷◌, ◌++◌, length, take, drop, get_or, refl, sym, ap, ◌∙◌, subst, arith, Option, Some, None}
use Rattle.std.specs.Prelude.{IfNone, nat_eq, not}
use Rattle.std.proofs.lemmas.Bool.{false≢true}
use Rattle.std.proofs.lemmas.List.{append_cancel_left, length-drop, take-append-drop, take_all, drop_more}
use lib.Pointwise.{pointwise, bytes_decides}
use Rattle.snapshot_text.specs.declared.cells.ElementOf.{ElementOf}
use Rattle.snapshot_text.specs.Cells.{element_name}
use Rattle.snapshot_text.specs.Steps.{name_of, Lacks}

-- an element's number between brackets, and a way
pub element_yes : (name number text bracket path own : List ℕ) (r : Bool) → name ≡ 91 ∷ number → number ≡ text ++ bracket → bracket ≡ 93 ∷ path → r ≡ pointwise nat_eq path own
    → (r ≡ true → name ≡ 91 ∷ (text ++ 93 ∷ own)) × (name ≡ 91 ∷ (text ++ 93 ∷ own) → r ≡ true)
element_yes name number text bracket path own r e f g h = (
  (λ t. e ∙ ap (λ l. 91 ∷ l) (f ∙ ap (λ l. text ++ l) (g ∙ ap (λ l. 93 ∷ l) ((bytes_decides path own).0 (sym h ∙ t))))),
  (λ q.
      let both : text ++ bracket ≡ text ++ 93 ∷ own = sym f ∙ ap (drop 1) (sym e ∙ q) in
      let same : path ≡ own = ap (drop 1) (sym g ∙ append_cancel_left text bracket (93 ∷ own) both) in
      h ∙ (bytes_decides path own).1 same),
)

pub element_no : (name number text bracket own : List ℕ) → name ≡ 91 ∷ number → number ≡ text ++ bracket → ((rest : List ℕ) → ¬ (bracket ≡ 93 ∷ rest)) → name ≡ 91 ∷ (text ++ 93 ∷ own) → ⊥
element_no name number text bracket own e f none q =
    let both : text ++ bracket ≡ text ++ 93 ∷ own = sym f ∙ ap (drop 1) (sym e ∙ q) in
    none own (append_cancel_left text bracket (93 ∷ own) both)

pub never : {P : Type 0} → (P → ⊥) → (false ≡ true → P) × (P → false ≡ true)
never h = ((λ t. absurd (false≢true t)), (λ p. absurd (h p)))

pub name_yes : (name own rest : List ℕ) (o : Option ElementOf) (e : ElementOf) (r : Bool) → o ≡ Some e → name ≡ own ++ rest
    → (r ≡ true → rest ≡ element_name [] e.index e.path.now) × (rest ≡ element_name [] e.index e.path.now → r ≡ true)
    → (r ≡ true → name ≡ name_of own o) × (name ≡ name_of own o → r ≡ true)
name_yes name own rest o e r is f d = (
  (λ t. f ∙ (ap (λ l. own ++ l) (d.0 t) ∙ ap (name_of own) (sym is))),
  (λ q. d.1 (append_cancel_left own rest (element_name [] e.index e.path.now) (sym f ∙ (q ∙ ap (name_of own) is)))),
)

-- a byte is found
pub found_at : (bytes : List ℕ) (byte at : ℕ) → at < length bytes → get_or bytes at 0 ≡ byte → bytes ≡ take at bytes ++ byte ∷ drop (at + 1) bytes
found_at bytes byte at lt e =
    sym (take-append-drop at bytes) ∙ ap (λ l. take at bytes ++ l) (drop_more bytes at 0 lt ∙ ap (λ b. b ∷ drop (at + 1) bytes) e)

pub all_lack : (bytes : List ℕ) (byte at : ℕ) → length bytes ≤ at → Lacks byte (take at bytes) → Lacks byte bytes
all_lack bytes byte at le h = subst (Lacks byte) (take_all at bytes le) h

-- a name that isn't missing is empty only where its line's is
pub named_of : (name own : List ℕ) → ¬ ((name ≡ []) × ¬ (name ≡ own)) → name ≡ [] → own ≡ []
named_of name [] h e = refl
named_of name (x ∷ own) h e = absurd (h (e, λ f. let g : [] ≡ x ∷ own = sym e ∙ f in cc))

-- texts that are tested to be one, or not
pub are_one : (xs ys : List ℕ) (r : Bool) → r ≡ pointwise nat_eq xs ys → r ≡ true → xs ≡ ys
are_one xs ys r e t = (bytes_decides xs ys).0 (sym e ∙ t)

pub are_two : (xs ys : List ℕ) (r : Bool) → r ≡ pointwise nat_eq xs ys → r ≡ false → ¬ (xs ≡ ys)
are_two xs ys r e f q = false≢true (sym f ∙ (e ∙ (bytes_decides xs ys).1 q))

pub differ : (xs ys : List ℕ) → true ≡ not (pointwise nat_eq xs ys) → ¬ (xs ≡ ys)
differ xs ys t e = false≢true (sym (ap not ((bytes_decides xs ys).1 e)) ∙ sym t)

pub agree : (xs ys : List ℕ) → false ≡ not (pointwise nat_eq xs ys) → xs ≡ ys
agree xs ys f = by (pointwise nat_eq xs ys) refl
  where
    by : (b : Bool) → pointwise nat_eq xs ys ≡ b → xs ≡ ys
    by true e = (bytes_decides xs ys).0 e
    by false e = absurd (false≢true (f ∙ ap not e))

pub if_none : {A : Type 0} (o : Option A) (P : Type 0) → P → IfNone o P
if_none None P p = p
if_none (Some x) P p = tt

-- what a slice from a place on shows
pub rest_of : (at : ℕ) (bytes : List ℕ) → take (length bytes - at) (drop at bytes) ≡ drop at bytes
rest_of at bytes = let long = length-drop at bytes in take_all (length bytes - at) (drop at bytes) (omega (arith, long))
