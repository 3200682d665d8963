-- The text of a dump is read as its rows and as no others.
use Rattle.std.proofs.Common.{◌≡◌, ℕ, zero, suc, ◌+◌, ◌^◌, ◌<◌, ◌≤◌, Bool, true, false, cond, eqb, ltb, List, [], ◌∷◌, ◌++◌, length, map, Some, None, refl, sym, ap, ap₂, ◌∙◌, subst, arith, slice_get, ◌⊎◌, inl, inr}
use Rattle.std.specs.Prelude.{All, codes, decimal, option_map, unwrap_or}
use Rattle.std.specs.List.{AllZip, enumerate_from}
use Rattle.std.proofs.Math.Nat.{pow-zero}
use Rattle.std.proofs.lemmas.Bool.{cases_lt, cond-true, cond-false, lt-ltb, le-ltb}
use Rattle.std.proofs.lemmas.Option.{slice_get-map, same_Some}
use Rattle.std.proofs.lemmas.List.{length-map}
use Rattle.std.proofs.lemmas.List.Elements.{All-head, All-tail, All-cons, All-nil, All-append, All-map, All-weaker}
use Rattle.std.proofs.lemmas.Slice.Zip.{AllZip-long}
use Rattle.bit_words.specs.declared.value.Value.{Value}
use Rattle.prim_ops.proofs.Fittings.{same_value}
use Rattle.ground_net.specs.declared.net.PortLeaf.{PortLeaf}
use Rattle.vcd_write.specs.Changes.{Entry, Time, Change, all_bits, changes, stamped, later, entries, dump}
use Rattle.vcd_write.specs.Texts.{id_of, binary, widths_of, change_line, entry_line, wires, var_line, header_lines, bits_of_row, vcd_text}
use Rattle.vcd_write.specs.Reading.{lines_of, Tells, heading, stamp, scalar, vector, last_bits, last_time, IsOfLeaf, AreRows, joined, VcdRead, is_plain, HasPlainNames}
use Rattle.vcd_write.proofs.Told.{told_count, told_bits}
use Rattle.vcd_write.proofs.Lines.{plain_cons, plain_append, lines_are}
use Rattle.vcd_write.proofs.Ids.{id_plain}
use Rattle.vcd_write.proofs.Numerals.{decimal_writes, decimal_plain, binary_writes, binary_plain}
use Rattle.vcd_write.proofs.Sayings.{all_once}

none_some : {A B : Type 0} {x : A} → None ≡ Some x → B
none_some e = absurd cc

-- Entries that have a line

abbrev Good : List PortLeaf → Entry → Type 0
Good vars (Time t) = t < 2 ^ 64
Good vars (Change i n) = (leaf : PortLeaf) × (slice_get vars i ≡ Some leaf) × (n < 2 ^ leaf.width)

abbrev AllGood : List PortLeaf → List Entry → Type 0
AllGood vars [] = Unit {0}
AllGood vars (e ∷ es) = Good vars e × AllGood vars es

good_append : (vars : List PortLeaf) (xs ys : List Entry) → AllGood vars xs → AllGood vars ys → AllGood vars (xs ++ ys)
good_append vars [] ys a b = b
good_append vars (x ∷ xs) ys a b = (a.0, good_append vars xs ys a.1 b)

abbrev Fits : PortLeaf → ℕ → Type 0
Fits leaf n = n < 2 ^ leaf.width

abbrev Behind : List PortLeaf → ℕ → List PortLeaf → Type 0
Behind vars j vs = (m : ℕ) → slice_get vs m ≡ slice_get vars (j + m)

next : (vars : List PortLeaf) (j : ℕ) (v : PortLeaf) (vs : List PortLeaf) → Behind vars j (v ∷ vs) → Behind vars (j + 1) vs
next vars j v vs at m = let k : j + suc m ≡ j + 1 + m = omega arith in at (suc m) ∙ ap (slice_get vars) k

here : (vars : List PortLeaf) (j : ℕ) (v : PortLeaf) (vs : List PortLeaf) → Behind vars j (v ∷ vs) → slice_get vars j ≡ Some v
here vars j v vs at = let k : j ≡ j + 0 = omega arith in ap (slice_get vars) k ∙ sym (at 0)

good_all : (vars : List PortLeaf) (j : ℕ) (vs : List PortLeaf) (ns : List ℕ) → Behind vars j vs → AllZip Fits vs ns → AllGood vars (all_bits j ns)
good_all vars j [] [] at h = tt
good_all vars j [] (n ∷ ns) at h = absurd h
good_all vars j (v ∷ vs) [] at h = absurd h
good_all vars j (v ∷ vs) (n ∷ ns) at h = ((v, here vars j v vs at, h.0), good_all vars (j + 1) vs ns (next vars j v vs at) h.1)

good_changes : (vars : List PortLeaf) (j : ℕ) (vs : List PortLeaf) (before ns : List ℕ) → Behind vars j vs → AllZip Fits vs ns → AllGood vars (changes j before ns)
good_changes vars j vs [] ns at h = tt
good_changes vars j vs (b ∷ bs) [] at h = tt
good_changes vars j [] (b ∷ bs) (n ∷ ns) at h = absurd h
good_changes vars j (v ∷ vs) (b ∷ bs) (n ∷ ns) at h = by (good_changes vars (j + 1) vs bs ns (next vars j v vs at) h.1) (eqb b n) where
  by : AllGood vars (changes (j + 1) bs ns) → (z : Bool) → AllGood vars (cond z (changes (j + 1) bs ns) (Change j n ∷ changes (j + 1) bs ns))
  by on true = on
  by on false = ((v, here vars j v vs at, h.0), on)

good_stamped : (vars : List PortLeaf) (c : ℕ) (es : List Entry) → c < 2 ^ 64 → AllGood vars es → AllGood vars (stamped c es)
good_stamped vars c [] lt h = tt
good_stamped vars c (e ∷ es) lt h = (lt, h)

good_later : (vars : List PortLeaf) (c : ℕ) (before : List ℕ) (rows : List (List ℕ)) → c + length rows < 2 ^ 64 → All (AllZip Fits vars) rows → AllGood vars (later c before rows)
good_later vars c before [] lt h = tt
good_later vars c before (r ∷ rs) lt h =
    good_append vars (stamped c (changes 0 before r)) (later (c + 1) r rs)
    (good_stamped vars c (changes 0 before r) (omega (arith, lt)) (good_changes vars 0 vars before r (λ m. let k : m ≡ 0 + m = omega arith in ap (slice_get vars) k) (All-head (AllZip Fits vars) r rs h)))
    (good_later vars (c + 1) r rs (omega (arith, lt)) (All-tail (AllZip Fits vars) r rs h))

good_dump : (vars : List PortLeaf) (rows : List (List ℕ)) → length rows < 2 ^ 64 → All (AllZip Fits vars) rows → AllGood vars (dump rows)
good_dump vars [] lt h = (lt, tt)
good_dump vars (r ∷ rs) lt h =
    good_append vars (entries (r ∷ rs)) (Time (length (r ∷ rs)) ∷ [])
    (good_append vars (Time 0 ∷ all_bits 0 r) (later 1 r rs)
    (omega arith, good_all vars 0 vars r (λ m. let k : m ≡ 0 + m = omega arith in ap (slice_get vars) k) (All-head (AllZip Fits vars) r rs h))
    (good_later vars 1 r rs (omega (arith, lt)) (All-tail (AllZip Fits vars) r rs h)))
    (lt, tt)

-- Their lines

pub one_bit : (w n : ℕ) → w ≤ 1 → n < 2 ^ w → n < 2
one_bit zero n le lt = let one : 2 ^ 0 ≡ 1 = pow-zero 2 in omega (arith, one, lt)
one_bit (suc zero) n le lt = lt
one_bit (suc (suc w)) n le lt = absurd (omega (arith, le))

pub width_at : (vars : List PortLeaf) (i : ℕ) (leaf : PortLeaf) → slice_get vars i ≡ Some leaf → unwrap_or (slice_get (widths_of vars) i) 0 ≡ leaf.width
width_at vars i leaf at = ap (λ o. unwrap_or o 0) (slice_get-map (λ (l : PortLeaf). l.width) vars i ∙ ap (option_map (λ (l : PortLeaf). l.width)) at)

tells_entry : (vars : List PortLeaf) (e : Entry) → Good vars e → Tells vars (entry_line (widths_of vars) e) (e ∷ [])
tells_entry vars (Time t) g = stamp (decimal t) t refl (decimal_writes t g) refl
tells_entry vars (Change i n) (leaf, at, lt) = by (cases_lt 1 leaf.width) where
  by : (1 < leaf.width) ⊎ (leaf.width ≤ 1) → Tells vars (entry_line (widths_of vars) (Change i n)) (Change i n ∷ [])
  by (inl wide) = vector i n leaf (binary leaf.width n) at wide
      (ap (λ w. change_line w i n) (width_at vars i leaf at) ∙ cond-true (ltb 1 leaf.width) (98 ∷ (binary leaf.width n ++ 32 ∷ id_of i)) ((48 + n) ∷ id_of i) (lt-ltb 1 leaf.width wide))
      (binary_writes leaf.width n (omega (arith, wide)) lt) refl
  by (inr low) = scalar i n leaf at low (one_bit leaf.width n low lt)
      (ap (λ w. change_line w i n) (width_at vars i leaf at) ∙ cond-false (ltb 1 leaf.width) (98 ∷ (binary leaf.width n ++ 32 ∷ id_of i)) ((48 + n) ∷ id_of i) (le-ltb 1 leaf.width low)) refl

tells_entries : (vars : List PortLeaf) (es : List Entry) → AllGood vars es → AllZip (Tells vars) (map (entry_line (widths_of vars)) es) (map (λ e. e ∷ []) es)
tells_entries vars [] g = tt
tells_entries vars (e ∷ es) g = (tells_entry vars e g.0, tells_entries vars es g.1)

change_plain : (w i n : ℕ) → is_plain (change_line w i n) ≡ true
change_plain w i n = by (ltb 1 w) where
  by : (z : Bool) → is_plain (cond z (98 ∷ (binary w n ++ 32 ∷ id_of i)) ((48 + n) ∷ id_of i)) ≡ true
  by true = plain_append (binary w n) (32 ∷ id_of i) (binary_plain w n) (id_plain i)
  by false = plain_cons (48 + n) (id_of i) (λ e. omega (arith, e)) (id_plain i)

entry_plain : (vars : List PortLeaf) (e : Entry) → Good vars e → is_plain (entry_line (widths_of vars) e) ≡ true
entry_plain vars (Time t) g = decimal_plain t g
entry_plain vars (Change i n) g = change_plain (unwrap_or (slice_get (widths_of vars) i) 0) i n

entries_plain : (vars : List PortLeaf) (es : List Entry) → AllGood vars es → All (λ l. is_plain l ≡ true) (map (entry_line (widths_of vars)) es)
entries_plain vars [] g = All-nil (λ (l : List ℕ). is_plain l ≡ true)
entries_plain vars (e ∷ es) g = All-cons (λ (l : List ℕ). is_plain l ≡ true) (entry_line (widths_of vars) e) (map (entry_line (widths_of vars)) es) (entry_plain vars e g.0) (entries_plain vars es g.1)

-- The header

abbrev IsHead : List ℕ → Type 0
IsHead line = (is_plain line ≡ true) × ((rest : List ℕ) × (line ≡ 36 ∷ rest))

wires_small : (leaf : PortLeaf) → wires leaf.width < 2 ^ 64
wires_small leaf = by (ltb 1 leaf.width) where
  by : (z : Bool) → cond z leaf.width 1 < 2 ^ 64
  by true = omega (arith, leaf.narrow)
  by false = omega arith

var_head : (v : ℕ × PortLeaf) → is_plain v.1.name ≡ true → IsHead (var_line v)
var_head v plain = (
  plain_append (codes "$var wire ") (decimal (wires v.1.width) ++ (codes " " ++ (id_of v.0 ++ (codes " " ++ (v.1.name ++ codes " $end"))))) refl
      (plain_append (decimal (wires v.1.width)) (codes " " ++ (id_of v.0 ++ (codes " " ++ (v.1.name ++ codes " $end")))) (decimal_plain (wires v.1.width) (wires_small v.1))
      (plain_append (id_of v.0) (codes " " ++ (v.1.name ++ codes " $end")) (id_plain v.0) (plain_append v.1.name (codes " $end") plain refl))),
  (_, refl),
)

vars_head : (n : ℕ) (vars : List PortLeaf) → All (λ leaf. is_plain leaf.name ≡ true) vars → All IsHead (map var_line (enumerate_from n vars))
vars_head n [] h = All-nil IsHead
vars_head n (v ∷ vs) h =
    All-cons IsHead (var_line (n, v)) (map var_line (enumerate_from (n + 1) vs)) (var_head (n, v) (All-head (λ (leaf : PortLeaf). is_plain leaf.name ≡ true) v vs h))
    (vars_head (n + 1) vs (All-tail (λ (leaf : PortLeaf). is_plain leaf.name ≡ true) v vs h))

header_head : (top : List ℕ) (vars : List PortLeaf) → HasPlainNames top vars → All IsHead (header_lines top vars)
header_head top vars h =
    All-cons IsHead (codes "$timescale 1 ns $end") ((codes "$scope module " ++ (top ++ codes " $end")) ∷ (map var_line (enumerate_from 0 vars) ++ codes "$upscope $end" ∷ codes "$enddefinitions $end" ∷ [])) (refl, (_, refl))
    (All-cons IsHead (codes "$scope module " ++ (top ++ codes " $end")) (map var_line (enumerate_from 0 vars) ++ codes "$upscope $end" ∷ codes "$enddefinitions $end" ∷ []) (plain_append top (codes " $end") h.of_top refl, (_, refl))
    (All-append IsHead (map var_line (enumerate_from 0 vars)) (codes "$upscope $end" ∷ codes "$enddefinitions $end" ∷ []) (vars_head 0 vars h.of_vars)
    (All-cons IsHead (codes "$upscope $end") (codes "$enddefinitions $end" ∷ []) (refl, (_, refl)) (All-cons IsHead (codes "$enddefinitions $end") [] (refl, (_, refl)) (All-nil IsHead)))))

tells_header : (vars : List PortLeaf) (ls : List (List ℕ)) → All IsHead ls → AllZip (Tells vars) ls (map (λ l. []) ls)
tells_header vars [] h = tt
tells_header vars (l ∷ ls) h = let first = All-head IsHead l ls h in (heading first.1.0 first.1.1 refl, tells_header vars ls (All-tail IsHead l ls h))

zip_append : {A B : Type 0} (R : A → B → Type 0) (xs us : List A) (ys vs : List B) → AllZip R xs ys → AllZip R us vs → AllZip R (xs ++ us) (ys ++ vs)
zip_append R [] us [] vs a b = b
zip_append R [] us (y ∷ ys) vs a b = absurd a
zip_append R (x ∷ xs) us [] vs a b = absurd a
zip_append R (x ∷ xs) us (y ∷ ys) vs a b = (a.0, zip_append R xs us ys vs a.1 b)

-- what all lines tell
abbrev all_told : List (List ℕ) → List Entry → List (List Entry)
all_told hs es = map (λ l. []) hs ++ map (λ e. e ∷ []) es

told_is : (hs : List (List ℕ)) (es : List Entry) → joined (all_told hs es) ≡ es
told_is [] [] = refl
told_is [] (e ∷ es) = ap (λ s. e ∷ s) (told_is [] es)
told_is (h ∷ hs) es = told_is hs es

-- Rows

row_fits : (vars : List PortLeaf) (row : List Value) → AllZip IsOfLeaf vars row → AllZip Fits vars (bits_of_row row)
row_fits [] [] h = tt
row_fits [] (v ∷ vs) h = absurd h
row_fits (l ∷ ls) [] h = absurd h
row_fits (l ∷ ls) (v ∷ vs) h = (subst (λ w. v.bits < 2 ^ w) h.0.width v.within, row_fits ls vs h.1)

module _ (top : List ℕ) (vars : List PortLeaf) (rows : List (List Value)) (plain : HasPlainNames top vars) (are : AreRows vars rows) (few : length rows < 2 ^ 64) where
  abbrev bits : List (List ℕ)
  bits = map bits_of_row rows

  wide : All (λ (r : List ℕ). length r ≡ length vars) (map bits_of_row rows)
  wide = All-map (λ (r : List ℕ). length r ≡ length vars) bits_of_row rows
      (All-weaker (AllZip IsOfLeaf vars) (λ (r : List Value). length (bits_of_row r) ≡ length vars) (λ r h. length-map r (λ (v : Value). v.bits) ∙ AllZip-long IsOfLeaf vars r h) rows are)

  good : AllGood vars (dump (map bits_of_row rows))
  good = good_dump vars (map bits_of_row rows) (omega (arith, few, length-map rows bits_of_row))
      (All-map (AllZip Fits vars) bits_of_row rows (All-weaker (AllZip IsOfLeaf vars) (λ (r : List Value). AllZip Fits vars (bits_of_row r)) (row_fits vars) rows are))

  lines : lines_of (vcd_text top vars rows) ≡ header_lines top vars ++ map (entry_line (widths_of vars)) (dump (map bits_of_row rows))
  lines = lines_are (header_lines top vars ++ map (entry_line (widths_of vars)) (dump (map bits_of_row rows)))
      (All-append (λ (l : List ℕ). is_plain l ≡ true) (header_lines top vars) (map (entry_line (widths_of vars)) (dump (map bits_of_row rows)))
      (All-weaker IsHead (λ (l : List ℕ). is_plain l ≡ true) (λ l h. h.0) (header_lines top vars) (header_head top vars plain)) (entries_plain vars (dump (map bits_of_row rows)) good))

  pub text_is_read : VcdRead vars (vcd_text top vars rows) rows
  text_is_read = record {
    told = all_told (header_lines top vars) (dump (map bits_of_row rows));
    tells = subst (λ ls. AllZip (Tells vars) ls (all_told (header_lines top vars) (dump (map bits_of_row rows)))) (sym lines)
        (zip_append (Tells vars) (header_lines top vars) (map (entry_line (widths_of vars)) (dump (map bits_of_row rows))) (map (λ l. []) (header_lines top vars)) (map (λ e. e ∷ []) (dump (map bits_of_row rows)))
        (tells_header vars (header_lines top vars) (header_head top vars plain)) (tells_entries vars (dump (map bits_of_row rows)) good));
    count = ap (last_time None) (told_is (header_lines top vars) (dump (map bits_of_row rows))) ∙ (told_count (map bits_of_row rows) ∙ ap Some (length-map rows bits_of_row));
    are = are;
    bits = λ c i row v e f. ap (last_bits c i 0 None) (told_is (header_lines top vars) (dump (map bits_of_row rows)))
        ∙ told_bits (length vars) (map bits_of_row rows) wide c i (bits_of_row row) v.bits (slice_get-map bits_of_row rows c ∙ ap (λ o. option_map bits_of_row o) e)
        (slice_get-map (λ (v : Value). v.bits) row i ∙ ap (λ o. option_map (λ (v : Value). v.bits) o) f);
  }

-- No others

row_same : (vars : List PortLeaf) (a b : List Value) → AllZip IsOfLeaf vars a → AllZip IsOfLeaf vars b
    → ((i : ℕ) (v w : Value) → slice_get a i ≡ Some v → slice_get b i ≡ Some w → v.bits ≡ w.bits) → a ≡ b
row_same [] [] [] x y h = refl
row_same [] [] (w ∷ ws) x y h = absurd y
row_same [] (v ∷ vs) b x y h = absurd x
row_same (l ∷ ls) [] b x y h = absurd x
row_same (l ∷ ls) (v ∷ vs) [] x y h = absurd y
row_same (l ∷ ls) (v ∷ vs) (w ∷ ws) x y h =
    ap₂ (λ z zs. z ∷ zs) (same_value v w (x.0.kind ∙ sym y.0.kind) (x.0.width ∙ sym y.0.width) (h 0 v w refl refl)) (row_same ls vs ws x.1 y.1 (λ i. h (suc i)))

rows_same : (vars : List PortLeaf) (a b : List (List Value)) → length a ≡ length b → AreRows vars a → AreRows vars b
    → ((c i : ℕ) (r s : List Value) (v w : Value) → slice_get a c ≡ Some r → slice_get b c ≡ Some s → slice_get r i ≡ Some v → slice_get s i ≡ Some w → v.bits ≡ w.bits) → a ≡ b
rows_same vars [] [] e x y h = refl
rows_same vars [] (s ∷ ss) e x y h = absurd (omega (arith, e))
rows_same vars (r ∷ rs) [] e x y h = absurd (omega (arith, e))
rows_same vars (r ∷ rs) (s ∷ ss) e x y h =
    ap₂ (λ z zs. z ∷ zs) (row_same vars r s (All-head (AllZip IsOfLeaf vars) r rs x) (All-head (AllZip IsOfLeaf vars) s ss y) (λ i v w. h 0 i r s v w refl refl))
    (rows_same vars rs ss (omega (arith, e)) (All-tail (AllZip IsOfLeaf vars) r rs x) (All-tail (AllZip IsOfLeaf vars) s ss y) (λ c. h (suc c)))

pub read_once : (vars : List PortLeaf) (text : List ℕ) (a b : List (List Value)) → VcdRead vars text a → VcdRead vars text b → a ≡ b
read_once vars text a b x y =
    let told : x.told ≡ y.told = all_once vars (lines_of text) x.told y.told x.tells y.tells in
    let same = ap joined told in
    rows_same vars a b (same_Some (length a) (length b) (sym x.count ∙ (ap (last_time None) same ∙ y.count))) x.are y.are
    (λ c i r s v w e f g k. same_Some v.bits w.bits (sym (x.bits c i r v e g) ∙ (ap (last_bits c i 0 None) same ∙ y.bits c i s w f k)))
