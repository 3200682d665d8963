-- What is known of the levels by the grammar alone: the open blocks, the open brackets, and of some references and types how many
-- suffixes they have so far.
use Rattle.std.proofs.Common.{◌≡◌, ℕ, ◌+◌, ◌-◌, ◌≤◌, ◌||◌, Bool, true, false, if◌then◌else◌, List, [], ◌∷◌, length, Option, Some, None, refl, ap, arith}
use Rattle.std.specs.Prelude.{⊤, suc, nat_le}
use Rattle.std.proofs.lemmas.Bool.{leb-false, leb-true, true≢false, false≢true}
use Rattle.fir_grammar.specs.Faults.{Levels, with_suffix, afresh, last_suffixes, closed}
use Rattle.depth_laws.proofs.Classes.{Class, A_text, An_opening, An_item, A_dot, A_square, A_closing, Another, Block_opens, Block_closes, past_class, deep_class}

pub record Known : Type 0 where
  pub blocks : ℕ
  pub head : Option ℕ
  pub outer : List (Option ℕ)
  pub dotted : Bool

abbrev pub more : Option ℕ → Option ℕ
more None = None
more (Some k) = Some (k + 1)

abbrev pub count : Option ℕ → ℕ
count None = 0
count (Some k) = k

abbrev pub first : List (Option ℕ) → Option ℕ
first [] = None
first (h ∷ hs) = h

abbrev pub others : List (Option ℕ) → List (Option ℕ)
others [] = []
others (h ∷ hs) = hs

abbrev pub moves : Class → Known → Known
moves A_text st = record { blocks = st.blocks; head = if st.dotted then st.head else Some 0; outer = st.outer; dotted = false }
moves An_opening st = record { blocks = st.blocks; head = Some 0; outer = st.head ∷ st.outer; dotted = false }
moves An_item st = record { blocks = st.blocks; head = st.head; outer = st.outer; dotted = false }
moves A_dot st = record { blocks = st.blocks; head = more st.head; outer = st.outer; dotted = true }
moves A_square st = record { blocks = st.blocks; head = Some 0; outer = more st.head ∷ st.outer; dotted = false }
moves A_closing st = record { blocks = st.blocks; head = first st.outer; outer = others st.outer; dotted = false }
moves Another st = record { blocks = st.blocks; head = st.head; outer = st.outer; dotted = false }
moves Block_opens st = record { blocks = st.blocks + 1; head = st.head; outer = st.outer; dotted = false }
moves Block_closes st = record { blocks = st.blocks - 1; head = st.head; outer = st.outer; dotted = false }

-- what must be known before a piece

abbrev pub Counted : Option ℕ → Type 0 → Type 0
Counted None X = ⊥
Counted (Some k) X = X

abbrev pub Guard : Class → Known → Type 0 → Type 0
Guard A_dot st X = Counted st.head X
Guard A_square st X = Counted st.head X
Guard _ st X = X

counted : (h : Option ℕ) (X : Type 0) → Counted h X → Counted h ⊤ × X
counted None X x = absurd x
counted (Some k) X x = (tt, x)

pub guarded : (c : Class) (st : Known) (X : Type 0) → Guard c st X → Guard c st ⊤ × X
guarded A_text st X x = (tt, x)
guarded An_opening st X x = (tt, x)
guarded An_item st X x = (tt, x)
guarded A_dot st X x = counted st.head X x
guarded A_square st X x = counted st.head X x
guarded A_closing st X x = (tt, x)
guarded Another st X x = (tt, x)
guarded Block_opens st X x = (tt, x)
guarded Block_closes st X x = (tt, x)

-- what is known holds

abbrev pub Knows : ℕ → Option ℕ → Type 0
Knows n None = ⊤
Knows n (Some k) = n ≡ k

abbrev pub Stack : List ℕ → List (Option ℕ) → Type 0
Stack [] [] = ⊤
Stack [] (h ∷ hs) = ⊥
Stack (n ∷ ns) [] = ⊥
Stack (n ∷ ns) (h ∷ hs) = Knows n h × Stack ns hs

pub record Agrees (at : Levels) (st : Known) : Type 0 where
  pub blocks : at.blocks ≡ st.blocks
  pub dotted : at.dotted ≡ st.dotted
  pub stack : Stack at.suffixes (st.head ∷ st.outer)

stack_length : (ns : List ℕ) (hs : List (Option ℕ)) → Stack ns hs → length ns ≡ length hs
stack_length [] [] a = refl
stack_length [] (h ∷ hs) a = absurd a
stack_length (n ∷ ns) [] a = absurd a
stack_length (n ∷ ns) (h ∷ hs) a = ap suc (stack_length ns hs (a.1))

stack_brackets : (ns : List ℕ) (h : Option ℕ) (hs : List (Option ℕ)) → Stack ns (h ∷ hs) → length ns - 1 ≡ length hs
stack_brackets [] h hs a = absurd a
stack_brackets (n ∷ ns) h hs a = omega (arith, stack_length ns hs (a.1))

stack_text : (ns : List ℕ) (h : Option ℕ) (hs : List (Option ℕ)) (d e : Bool) → d ≡ e → Stack ns (h ∷ hs) → Stack (if d then ns else afresh ns) ((if e then h else Some 0) ∷ hs)
stack_text [] h hs d e s a = absurd a
stack_text (n ∷ ns) h hs true true s a = a
stack_text (n ∷ ns) h hs false false s a = (refl, a.1)
stack_text (n ∷ ns) h hs true false s a = absurd (true≢false s)
stack_text (n ∷ ns) h hs false true s a = absurd (false≢true s)

knows_more : (n : ℕ) (h : Option ℕ) → Knows n h → Knows (n + 1) (more h)
knows_more n None a = tt
knows_more n (Some k) a = ap (λ m. m + 1) a

stack_suffix : (ns : List ℕ) (h : Option ℕ) (hs : List (Option ℕ)) → Stack ns (h ∷ hs) → Stack (with_suffix ns) (more h ∷ hs)
stack_suffix [] h hs a = absurd a
stack_suffix (n ∷ ns) h hs a = (knows_more n h (a.0), a.1)

stack_pop : (ns : List ℕ) (h : Option ℕ) (hs : List (Option ℕ)) → Stack ns (h ∷ hs) → Stack (closed ns) (first hs ∷ others hs)
stack_pop [] h hs a = absurd a
stack_pop (n ∷ []) h [] a = (tt, tt)
stack_pop (n ∷ []) h (g ∷ hs) a = absurd (a.1)
stack_pop (n ∷ m ∷ ns) h [] a = absurd (a.1)
stack_pop (n ∷ m ∷ ns) h (g ∷ hs) a = a.1

pub agrees_past : (c : Class) (at : Levels) (st : Known) → Guard c st ⊤ → Agrees at st → Agrees (past_class c at) (moves c st)
agrees_past A_text at st g a = record { blocks = a.blocks; dotted = refl; stack = stack_text at.suffixes st.head st.outer at.dotted st.dotted a.dotted a.stack }
agrees_past An_opening at st g a = record { blocks = a.blocks; dotted = refl; stack = (refl, a.stack) }
agrees_past An_item at st g a = record { blocks = a.blocks; dotted = refl; stack = a.stack }
agrees_past A_dot at st g a = record { blocks = a.blocks; dotted = refl; stack = stack_suffix at.suffixes st.head st.outer a.stack }
agrees_past A_square at st g a = record { blocks = a.blocks; dotted = refl; stack = (refl, stack_suffix at.suffixes st.head st.outer a.stack) }
agrees_past A_closing at st g a = record { blocks = a.blocks; dotted = refl; stack = stack_pop at.suffixes st.head st.outer a.stack }
agrees_past Another at st g a = record { blocks = a.blocks; dotted = refl; stack = a.stack }
agrees_past Block_opens at st g a = record { blocks = ap (λ n. n + 1) a.blocks; dotted = refl; stack = a.stack }
agrees_past Block_closes at st g a = record { blocks = ap (λ n. n - 1) a.blocks; dotted = refl; stack = a.stack }

-- what stands behind a piece, and that the piece itself isn't deep

abbrev pub Behind : Class → Known → Type 0 → Type 0
Behind An_opening st X = (length st.outer + 1 ≤ 128) × X
Behind A_dot st X = (count st.head + 1 ≤ 128) × X
Behind A_square st X = (length st.outer + 1 ≤ 128) × ((count st.head + 1 ≤ 128) × X)
Behind Block_opens st X = (st.blocks + 1 ≤ 128) × X
Behind _ st X = X

few : (n m : ℕ) → n ≡ m → nat_le 128 n ≡ false → m + 1 ≤ 128
few n m e h = omega (arith, e, leb-false 128 n h)

few_counted : (ns : List ℕ) (h : Option ℕ) (hs : List (Option ℕ)) → Stack ns (h ∷ hs) → nat_le 128 (last_suffixes ns) ≡ false → count h + 1 ≤ 128
few_counted [] h hs a e = absurd a
few_counted (n ∷ ns) None hs a e = omega arith
few_counted (n ∷ ns) (Some k) hs a e = few n k (a.0) e

neither : (p q : Bool) → p || q ≡ false → (p ≡ false) × (q ≡ false)
neither false false e = (refl, refl)
neither false true e = absurd (true≢false e)
neither true q e = absurd (true≢false e)

pub behind : (c : Class) (at : Levels) (st : Known) (X : Type 0) → Agrees at st → deep_class at c ≡ false → X → Behind c st X
behind A_text at st X a e x = x
behind An_opening at st X a e x = (few (length at.suffixes - 1) (length st.outer) (stack_brackets at.suffixes st.head st.outer a.stack) e, x)
behind An_item at st X a e x = x
behind A_dot at st X a e x = (few_counted at.suffixes st.head st.outer a.stack e, x)
behind A_square at st X a e x =
    let both = neither (nat_le 128 (length at.suffixes - 1)) (nat_le 128 (last_suffixes at.suffixes)) e in
    (few (length at.suffixes - 1) (length st.outer) (stack_brackets at.suffixes st.head st.outer a.stack) both.0, (few_counted at.suffixes st.head st.outer a.stack both.1, x))
behind A_closing at st X a e x = x
behind Another at st X a e x = x
behind Block_opens at st X a e x = (few at.blocks st.blocks a.blocks e, x)
behind Block_closes at st X a e x = x

-- and back

flat : (n m : ℕ) → n ≡ m → m + 1 ≤ 128 → nat_le 128 n ≡ false
flat n m e h = by (nat_le 128 n) refl
  where
    by : (b : Bool) → nat_le 128 n ≡ b → b ≡ false
    by true t = absurd (omega (arith, e, h, leb-true 128 n t))
    by false t = refl

flat_counted : (ns : List ℕ) (h : Option ℕ) (hs : List (Option ℕ)) → Counted h ⊤ → Stack ns (h ∷ hs) → count h + 1 ≤ 128 → nat_le 128 (last_suffixes ns) ≡ false
flat_counted [] h hs g a l = absurd a
flat_counted (n ∷ ns) None hs g a l = absurd g
flat_counted (n ∷ ns) (Some k) hs g a l = flat n k (a.0) l

both_flat : (p q : Bool) → p ≡ false → q ≡ false → p || q ≡ false
both_flat false q e h = h
both_flat true q e h = absurd (true≢false e)

pub ahead : (c : Class) (at : Levels) (st : Known) (X : Type 0) → Agrees at st → Guard c st ⊤ → Behind c st X → (deep_class at c ≡ false) × X
ahead A_text at st X a g x = (refl, x)
ahead An_opening at st X a g x = (flat (length at.suffixes - 1) (length st.outer) (stack_brackets at.suffixes st.head st.outer a.stack) (x.0), x.1)
ahead An_item at st X a g x = (refl, x)
ahead A_dot at st X a g x = (flat_counted at.suffixes st.head st.outer g a.stack (x.0), x.1)
ahead A_square at st X a g x = (
  both_flat (nat_le 128 (length at.suffixes - 1)) (nat_le 128 (last_suffixes at.suffixes))
      (flat (length at.suffixes - 1) (length st.outer) (stack_brackets at.suffixes st.head st.outer a.stack) (x.0))
      (flat_counted at.suffixes st.head st.outer g a.stack (x.1.0)),
  x.1.1,
)
ahead A_closing at st X a g x = (refl, x)
ahead Another at st X a g x = (refl, x)
ahead Block_opens at st X a g x = (flat at.blocks st.blocks a.blocks (x.0), x.1)
ahead Block_closes at st X a g x = (refl, x)
