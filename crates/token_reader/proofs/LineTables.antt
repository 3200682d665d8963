-- Tables of the lines of a text, and the places that they give.
use Rattle.std.proofs.Common.{◌≡◌, ℕ, zero, suc, ◌+◌, ◌-◌, ◌<◌, ◌≤◌, Bool, true, false, cond, leb, List, [], ◌∷◌, ◌++◌, length, get_or, refl, ◌∙◌, ap, ap₂, arith, ⊎_elim, length-append, codes}
use Rattle.std.proofs.Math.Seq.{of_parts}
use Rattle.std.proofs.lemmas.Grind.{common_steps, get_or_default_zero}
use Rattle.std.proofs.lemmas.Bool.{cases_lt, le-leb}
use Rattle.std.specs.List.Sorted.{IsPartitionPoint, IsPartitionedBy}
use Rattle.place_text.specs.declared.place.Place.{Place}
use Rattle.place_text.specs.Places.{is_feed, place}
use Rattle.place_text.proofs.Places.{place-start, place-feed, place-byte}
use Rattle.token_reader.specs.LineStarts.{starts_to, line_starts, IsLine}

-- the first lines begin at or before the offset, and the others behind it
record IsCut (lines before : List ℕ) (offset : ℕ) : Type 0 where
  behind : List ℕ
  is : lines ≡ before ++ behind
  low : (j : ℕ) → j < length before → get_or before j 0 ≤ offset
  high : (j : ℕ) → j < length behind → offset < get_or behind j 0

-- an item more at the end, or none
low_more : (xs : List ℕ) (x bound j : ℕ) (b : Bool) → ((k : ℕ) → k < length xs → get_or xs k 0 ≤ bound) → x ≤ bound → j < length (xs ++ cond b (x ∷ []) []) → get_or (xs ++ cond b (x ∷ []) []) j 0 ≤ bound
low_more xs x bound j true low h within = grind (arith, common_steps, low, of_parts)
low_more xs x bound j false low h within = grind (arith, common_steps, low, of_parts)

high_more : (xs : List ℕ) (x bound j : ℕ) (b : Bool) → ((k : ℕ) → k < length xs → bound < get_or xs k 0) → bound < x → j < length (xs ++ cond b (x ∷ []) []) → bound < get_or (xs ++ cond b (x ∷ []) []) j 0
high_more xs x bound j true high h within = grind (arith, common_steps, high, of_parts)
high_more xs x bound j false high h within = grind (arith, common_steps, high, of_parts)

-- each line up to an offset begins at or before it
low_starts : (text : List ℕ) (offset j : ℕ) → j < length (starts_to text offset) → get_or (starts_to text offset) j 0 ≤ offset
low_starts text zero j within = grind (arith, common_steps)
low_starts text (suc offset) j within = low_more (starts_to text offset) (suc offset) (suc offset) j (is_feed (get_or text offset 0))
    (λ k h. let below = low_starts text offset k h in omega (arith, below)) (omega arith) within

-- no more lines begin up to an offset than there are offsets
few_more : (xs : List ℕ) (x n : ℕ) (b : Bool) → length xs ≤ n + 1 → length (xs ++ cond b (x ∷ []) []) ≤ suc n + 1
few_more xs x n true h = grind (arith, common_steps)
few_more xs x n false h = grind (arith, common_steps)

few_starts : (text : List ℕ) (offset : ℕ) → length (starts_to text offset) ≤ offset + 1
few_starts text zero = omega arith
few_starts text (suc offset) = few_more (starts_to text offset) (suc offset) offset (is_feed (get_or text offset 0)) (few_starts text offset)

-- later lines leave those that begin at or before the offset
append_assoc : (xs ys zs : List ℕ) → (xs ++ ys) ++ zs ≡ xs ++ (ys ++ zs)
append_assoc xs ys zs = grind (arith, common_steps)

cut_all : (text : List ℕ) (offset : ℕ) → IsCut (starts_to text offset) (starts_to text offset) offset
cut_all text offset = record { behind = []; is = grind (arith, common_steps); low = low_starts text offset; high = λ j h. absurd (omega (arith, h)) }

cut_more : (lines before : List ℕ) (offset x : ℕ) (b : Bool) → offset < x → IsCut lines before offset → IsCut (lines ++ cond b (x ∷ []) []) before offset
cut_more lines before offset x b h c = record {
  behind = c.behind ++ cond b (x ∷ []) [];
  is = ap (λ ls. ls ++ cond b (x ∷ []) []) c.is ∙ append_assoc before c.behind (cond b (x ∷ []) []);
  low = c.low;
  high = λ j w. high_more c.behind x offset j b c.high h w;
}

cut : (text : List ℕ) (offset n : ℕ) → offset ≤ n → IsCut (starts_to text n) (starts_to text offset) offset
cut text offset zero h = let e : offset ≡ 0 = omega (arith, h) in rw e (cut_all text 0)
cut text offset (suc n) h = ⊎_elim
    (λ below. cut_more (starts_to text n) (starts_to text offset) offset (suc n) (is_feed (get_or text n 0)) (omega (arith, below)) (cut text offset n (omega (arith, below))))
    (λ same. let e : offset ≡ suc n = omega (arith, h, same) in rw e (cut_all text (suc n))) (cases_lt offset (suc n))

-- the last line that begins at or before an offset, and the place that it gives
record HasLast (text : List ℕ) (offset : ℕ) (starts : List ℕ) : Type 0 where
  front : List ℕ
  last : ℕ
  is : starts ≡ front ++ last ∷ []
  below : last ≤ offset
  place_is : place text offset ≡ record { line = length front + 1; column = offset - last + 1 }

at_place : (a b c d : ℕ) → a ≡ b → c ≡ d → ◌≡◌ {A = Place} (record { line = a; column = c }) (record { line = b; column = d })
at_place a b c d e f = ap₂ (λ line column. record { line = line; column = column }) e f

append_none : (xs : List ℕ) → xs ++ [] ≡ xs
append_none xs = grind (arith, common_steps)

suc_is : (n : ℕ) → suc n ≡ n + 1
suc_is n = omega arith

feed_is : (byte : ℕ) → is_feed byte ≡ true → byte ≡ 10
feed_is byte e = grind (arith, common_steps)

last_more : (text : List ℕ) (offset : ℕ) (starts : List ℕ) (b : Bool) → is_feed (get_or text offset 0) ≡ b → offset < length text → HasLast text offset starts → HasLast text (suc offset) (starts ++ cond b (suc offset ∷ []) [])
last_more text offset starts true e within l = record {
  front = starts;
  last = suc offset;
  is = refl;
  below = omega arith;
  place_is = ap (place text) (suc_is offset) ∙ place-feed text offset within (feed_is (get_or text offset 0) e) ∙ (let more = length-append l.front (l.last ∷ []) in rw (l.place_is, l.is) (at_place (length l.front + 1 + 1) (length (l.front ++ l.last ∷ []) + 1) 1 (suc offset - suc offset + 1) (omega (arith, more)) (omega arith)));
}
last_more text offset starts false e within l = record {
  front = l.front;
  last = l.last;
  is = append_none starts ∙ l.is;
  below = let h = l.below in omega (arith, h);
  place_is = ap (place text) (suc_is offset) ∙ place-byte text offset within e ∙ rw l.place_is (let h = l.below in at_place (length l.front + 1) (length l.front + 1) (offset - l.last + 1 + 1) (suc offset - l.last + 1) refl (omega (arith, h)));
}

has_last : (text : List ℕ) (offset : ℕ) → offset ≤ length text → HasLast text offset (starts_to text offset)
has_last text zero h = record { front = []; last = 0; is = refl; below = omega arith; place_is = place-start text }
has_last text (suc offset) h = last_more text offset (starts_to text offset) (is_feed (get_or text offset 0)) refl (omega (arith, h)) (has_last text offset (omega (arith, h)))

-- what the table holds at a place
leb-le : (a b : ℕ) → leb a b ≡ true → a ≤ b
leb-le a b e = grind (arith, common_steps)

low_part : (lines before behind : List ℕ) (j : ℕ) → lines ≡ before ++ behind → j < length before → get_or lines j 0 ≡ get_or before j 0
low_part lines before behind j e h = grind (arith, common_steps, of_parts)

high_part : (lines before behind : List ℕ) (j : ℕ) → lines ≡ before ++ behind → length before ≤ j → get_or lines j 0 ≡ get_or behind (j - length before) 0
high_part lines before behind j e h = grind (arith, common_steps, of_parts)

parted_length : (lines before behind : List ℕ) → lines ≡ before ++ behind → length lines ≡ length before + length behind
parted_length lines before behind e = grind (arith, common_steps)

module _ {lines before : List ℕ} {offset : ℕ} (c : IsCut lines before offset) where
  cut_low : (j : ℕ) → j < length before → get_or lines j 0 ≤ offset
  cut_low j h = rw (low_part lines before c.behind j c.is h) (c.low j h)

  cut_high : (j : ℕ) → length before ≤ j → j < length lines → offset < get_or lines j 0
  cut_high j h w = let n = parted_length lines before c.behind c.is in rw (high_part lines before c.behind j c.is h) (c.high (j - length before) (omega (arith, h, w, n)))

  cut_within : length before ≤ length lines
  cut_within = let n = parted_length lines before c.behind c.is in omega (arith, n)

  -- the items that pass the test stand first
  cut_parted : IsPartitionedBy (λ y. leb y offset) lines
  cut_parted i j d h w e = ⊎_elim
      (λ low. let n = cut_low i (omega (arith, h, low)) in rw (get_or_default_zero lines i d (omega (arith, h, w))) (le-leb (get_or lines i 0) offset n))
      (λ high. absurd (let n = cut_high j high w in let m = leb-le (get_or lines j 0) offset (rw (get_or_default_zero lines j d w) at e) in omega (arith, n, m))) (cases_lt j (length before))

  cut_point : (i : ℕ) → i ≤ length lines → IsPartitionPoint (λ y. leb y offset ≡ true) (λ y. leb y offset ≡ false) lines i → i ≡ length before
  cut_point i w p = ⊎_elim
      (λ less. absurd (let n = cut_low i less in let m = le-leb (get_or lines i 0) offset n in let no = p.1 i 0 (omega arith) (let b = cut_within in omega (arith, less, b)) in cc))
      (λ no_less. ⊎_elim (λ more. absurd (let n = cut_high (length before) (omega arith) (omega (arith, more, w)) in let m = leb-le (get_or lines (length before) 0) offset (p.0 (length before) 0 (omega arith) more) in omega (arith, n, m)))
      (λ no_more. omega (arith, no_less, no_more)) (cases_lt (length before) i)) (cases_lt i (length before))

-- what the number of lines at or before an offset says of its place
last_length : (starts front : List ℕ) (last : ℕ) → starts ≡ front ++ last ∷ [] → length starts ≡ length front + 1
last_length starts front last e = grind (arith, common_steps)

last_item : (starts front : List ℕ) (last : ℕ) → starts ≡ front ++ last ∷ [] → get_or starts (length front) 0 ≡ last
last_item starts front last e = grind (arith, common_steps, of_parts)

line_here : (text lines starts : List ℕ) (offset line : ℕ) → IsCut lines starts offset → HasLast text offset starts → length starts ≤ offset + 1 → line ≡ length starts → IsLine text lines offset line
line_here text lines starts offset line c l few e =
    let n = last_length starts l.front l.last l.is in
    let w = cut_within c in
    let back : line - 1 ≡ length l.front = omega (arith, e, n) in
    let item : get_or lines (line - 1) 0 ≡ l.last = rw back (low_part lines starts c.behind (length l.front) c.is (omega (arith, n)) ∙ last_item starts l.front l.last l.is) in
    let below = l.below in
    record {
      some = omega (arith, e, n);
      within = omega (arith, e, w);
      few = omega (arith, e, few);
      below = omega (arith, item, below);
      is = l.place_is ∙ at_place (length l.front + 1) line (offset - l.last + 1) (offset - get_or lines (line - 1) 0 + 1) (omega (arith, e, n)) (omega (arith, item));
    }

cut_of : (text lines : List ℕ) (offset : ℕ) → lines ≡ line_starts text → offset ≤ length text → IsCut lines (starts_to text offset) offset
cut_of text lines offset e h = rw e (cut text offset (length text) h)

pub lines_parted : (text lines : List ℕ) (offset : ℕ) → lines ≡ line_starts text → offset ≤ length text → IsPartitionedBy (λ y. leb y offset) lines
lines_parted text lines offset e h = cut_parted (cut_of text lines offset e h)

pub line_found : (text lines : List ℕ) (offset line : ℕ) → lines ≡ line_starts text → offset ≤ length text → line ≤ length lines → IsPartitionPoint (λ y. leb y offset ≡ true) (λ y. leb y offset ≡ false) lines line → IsLine text lines offset line
line_found text lines offset line e h w p =
    let c = cut_of text lines offset e h in
    line_here text lines (starts_to text offset) offset line c (has_last text offset h) (few_starts text offset) (cut_point c line w p)

-- in `a`, two line feeds and `bc` lines begin at 0, 2 and 3, and in a text of no bytes at 0
example_three : line_starts (codes "a\n\nbc") ≡ 0 ∷ 2 ∷ 3 ∷ []
example_three = refl

example_one : line_starts [] ≡ 0 ∷ []
example_one = refl
