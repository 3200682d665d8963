-- One more value of a row.
use Rattle.std.proofs.Common.{◌≡◌, ℕ, suc, ◌+◌, ◌<◌, Bool, true, false, cond, eqb, List, [], ◌∷◌, ◌++◌, length, map, take, get_or, Some, refl, sym, ap, ap₂, ◌∙◌, arith, slice_get, append_assoc}
use Rattle.std.specs.Prelude.{flat_map, unwrap_or, option_map}
use Rattle.std.specs.List.{enumerate_from}
use Rattle.std.proofs.lemmas.Bool.{eq-eqb, ne_eqb}
use Rattle.std.proofs.lemmas.List.{length-map, length-take-le, length-append, map-append, append-nil, take_more}
use Rattle.std.proofs.lemmas.Grind.{flat_map-append}
use Rattle.std.proofs.lemmas.Option.{slice_get-map, slice_get-get_or}
use Rattle.bit_words.specs.declared.value.Value.{Value}
use Rattle.ground_net.specs.declared.net.PortLeaf.{PortLeaf}
use Rattle.vcd_write.specs.Changes.{Entry, Time, Change, all_bits, changes, stamped}
use Rattle.vcd_write.specs.Texts.{change_line, entry_line, var_line, ended, bits_of_row}
use Rattle.vcd_write.specs.Pieces.{widths_of_row, entries_text}

-- a text that stands behind another goes on
pub behind : (old told line next text new : List ℕ) → text ≡ old ++ told → new ≡ text ++ line → told ++ line ≡ next → new ≡ old ++ next
behind old told line next text new was put more = put ∙ (ap (λ t. t ++ line) was ∙ (append_assoc old told line ∙ ap (λ l. old ++ l) more))

-- nothing stands behind it where it is as long as the other, and else something
pub none_behind : (old told text : List ℕ) → text ≡ old ++ told → length text ≡ length old → told ≡ []
none_behind old [] text was even = refl
none_behind old (b ∷ bs) text was even = let long = ap length was ∙ length-append old (b ∷ bs) in absurd (omega (arith, long, even))

pub some_behind : (old told text : List ℕ) → text ≡ old ++ told → (length text ≡ length old → ⊥) → told ≡ [] → ⊥
some_behind old told text was more none = let long = ap length was ∙ length-append old told in let empty : length told ≡ 0 = ap length none in more (omega (arith, long, empty))

told_more : (widths : List ℕ) (es : List Entry) (e : Entry) → entries_text widths (es ++ e ∷ []) ≡ entries_text widths es ++ ended (entry_line widths e)
told_more widths es e =
    ap (flat_map ended) (map-append (entry_line widths) es (e ∷ []))
    ∙ (flat_map-append ended (map (entry_line widths) es) (entry_line widths e ∷ []) ∙ ap (λ l. entries_text widths es ++ l) (append-nil (ended (entry_line widths e))))

all_more : (i : ℕ) (ns : List ℕ) (n : ℕ) → all_bits i (ns ++ n ∷ []) ≡ all_bits i ns ++ Change (i + length ns) n ∷ []
all_more i [] n = let same : i ≡ i + 0 = omega arith in ap (λ k. Change k n ∷ []) same
all_more i (x ∷ xs) n = let same : i + 1 + length xs ≡ i + suc (length xs) = omega arith in ap (λ es. Change i x ∷ es) (all_more (i + 1) xs n ∙ ap (λ k. all_bits (i + 1) xs ++ Change k n ∷ []) same)

changes_more : (i : ℕ) (bs ns : List ℕ) (b n : ℕ) → length bs ≡ length ns → changes i (bs ++ b ∷ []) (ns ++ n ∷ []) ≡ changes i bs ns ++ cond (eqb b n) [] (Change (i + length bs) n ∷ [])
changes_more i [] [] b n e = let same : i ≡ i + 0 = omega arith in ap (λ k. cond (eqb b n) [] (Change k n ∷ [])) same
changes_more i [] (y ∷ ys) b n e = absurd (omega (arith, e))
changes_more i (x ∷ xs) [] b n e = absurd (omega (arith, e))
changes_more i (x ∷ xs) (y ∷ ys) b n e =
    let same : i + 1 + length xs ≡ i + suc (length xs) = omega arith in
    by (changes_more (i + 1) xs ys b n (omega (arith, e)) ∙ ap (λ k. changes (i + 1) xs ys ++ cond (eqb b n) [] (Change k n ∷ [])) same) (eqb x y)
  where
    by : changes (i + 1) (xs ++ b ∷ []) (ys ++ n ∷ []) ≡ changes (i + 1) xs ys ++ cond (eqb b n) [] (Change (i + suc (length xs)) n ∷ []) → (z : Bool)
        → cond z (changes (i + 1) (xs ++ b ∷ []) (ys ++ n ∷ [])) (Change i y ∷ changes (i + 1) (xs ++ b ∷ []) (ys ++ n ∷ []))
        ≡ cond z (changes (i + 1) xs ys) (Change i y ∷ changes (i + 1) xs ys) ++ cond (eqb b n) [] (Change (i + suc (length xs)) n ∷ [])
    by on true = on
    by on false = ap (λ es. Change i y ∷ es) on

-- a text of entries ends with one more, behind the time of a cycle that had none
stamped_more : (widths : List ℕ) (c : ℕ) (es : List Entry) (e : Entry) (text : List ℕ) → text ≡ entries_text widths (stamped c es)
    → (text ≡ [] → entries_text widths (stamped c (es ++ e ∷ [])) ≡ ended (entry_line widths (Time c)) ++ ended (entry_line widths e))
    × ((text ≡ [] → ⊥) → entries_text widths (stamped c (es ++ e ∷ [])) ≡ text ++ ended (entry_line widths e))
stamped_more widths c [] e text is = ((λ none. told_more widths (Time c ∷ []) e ∙ ap (λ l. l ++ ended (entry_line widths e)) (append-nil (ended (entry_line widths (Time c))))), (λ some. absurd (some is)))
stamped_more widths c (x ∷ xs) e text is = ((λ none. absurd (filled _ (sym none ∙ is))), (λ some. told_more widths (stamped c (x ∷ xs)) e ∙ ap (λ l. l ++ ended (entry_line widths e)) (sym is))) where
  filled : (l : List ℕ) → [] ≡ 35 ∷ l → ⊥
  filled l e = cc

numbered_more : (n : ℕ) (xs : List PortLeaf) (x : PortLeaf) → enumerate_from n (xs ++ x ∷ []) ≡ enumerate_from n xs ++ (n + length xs, x) ∷ []
numbered_more n [] x = let same : n ≡ n + 0 = omega arith in ap (λ k. (k, x) ∷ []) same
numbered_more n (y ∷ ys) x = let same : n + 1 + length ys ≡ n + suc (length ys) = omega arith in ap (λ l. (n, y) ∷ l) (numbered_more (n + 1) ys x ∙ ap (λ k. enumerate_from (n + 1) ys ++ (k, x) ∷ []) same)

abbrev declared : List (ℕ × PortLeaf) → List ℕ
declared vs = flat_map ended (map var_line vs)

declared_more : (vs : List (ℕ × PortLeaf)) (v : ℕ × PortLeaf) → declared (vs ++ v ∷ []) ≡ declared vs ++ ended (var_line v)
declared_more vs v = ap (flat_map ended) (map-append var_line vs (v ∷ [])) ∙ (flat_map-append ended (map var_line vs) (var_line v ∷ []) ∙ ap (λ l. declared vs ++ l) (append-nil (ended (var_line v))))

-- one more variable
pub variable_more : (vars : List PortLeaf) (i : ℕ) (leaf : PortLeaf) (old text new : List ℕ) → i < length vars → leaf ≡ get_or vars i leaf → text ≡ old ++ flat_map ended (map var_line (enumerate_from 0 (take i vars)))
    → new ≡ text ++ ended (var_line (i, leaf)) → new ≡ old ++ flat_map ended (map var_line (enumerate_from 0 (take (i + 1) vars)))
variable_more vars i leaf old text new within is was put =
    let long : 0 + length (take i vars) ≡ i = omega (arith, length-take-le i vars (omega (arith, within))) in
    let more : enumerate_from 0 (take (i + 1) vars) ≡ enumerate_from 0 (take i vars) ++ (i, leaf) ∷ [] =
    ap (enumerate_from 0) (take_more vars i leaf within ∙ ap (λ l. take i vars ++ l ∷ []) (sym is)) ∙ (numbered_more 0 (take i vars) leaf ∙ ap (λ k. enumerate_from 0 (take i vars) ++ (k, leaf) ∷ []) long)
    in
    put ∙ (ap (λ t. t ++ ended (var_line (i, leaf))) was ∙ (append_assoc old (declared (enumerate_from 0 (take i vars))) (ended (var_line (i, leaf)))
    ∙ ap (λ l. old ++ l) (sym (ap declared more ∙ declared_more (enumerate_from 0 (take i vars)) (i, leaf)))))

module _ (row : List Value) (i : ℕ) (v : Value) (within : i < length row) (is : v ≡ get_or row i v) where
  at : slice_get row i ≡ Some v
  at = slice_get-get_or row i v within ∙ ap Some (sym is)

  line_is : entry_line (widths_of_row row) (Change i v.bits) ≡ change_line v.width i v.bits
  line_is = ap (λ o. change_line (unwrap_or o 0) i v.bits) (slice_get-map (λ (w : Value). w.width) row i ∙ ap (option_map (λ (w : Value). w.width)) at)

  pub bits_more : bits_of_row (take (i + 1) row) ≡ bits_of_row (take i row) ++ v.bits ∷ []
  bits_more = ap bits_of_row (take_more row i v within ∙ ap (λ w. take i row ++ w ∷ []) (sym is)) ∙ map-append (λ (w : Value). w.bits) (take i row) (v ∷ [])

  long : length (bits_of_row (take i row)) ≡ i
  long = length-map (take i row) (λ (w : Value). w.bits) ∙ length-take-le i row (omega (arith, within))

  place : 0 + length (bits_of_row (take i row)) ≡ i
  place = omega (arith, long)

  pub value_more : (c : ℕ) (text new : List ℕ) → text ≡ entries_text (widths_of_row row) (Time c ∷ all_bits 0 (bits_of_row (take i row))) → new ≡ text ++ ended (change_line v.width i v.bits)
      → new ≡ entries_text (widths_of_row row) (Time c ∷ all_bits 0 (bits_of_row (take (i + 1) row)))
  value_more c text new was put =
      put ∙ (ap₂ (λ l m. l ++ ended m) was (sym line_is) ∙ (sym (told_more (widths_of_row row) (Time c ∷ all_bits 0 (bits_of_row (take i row))) (Change i v.bits))
      ∙ ap (λ es. entries_text (widths_of_row row) (Time c ∷ es)) (sym (ap (all_bits 0) bits_more ∙ (all_more 0 (bits_of_row (take i row)) v.bits ∙ ap (λ k. all_bits 0 (bits_of_row (take i row)) ++ Change k v.bits ∷ []) place)))))

  -- a value that differs from the one before, which is told behind the time of the cycle
  module _ (before : List Value) (o : Value) (even : length before ≡ length row) (was : o ≡ get_or before i o) where
    abbrev told : List Entry
    told = changes 0 (bits_of_row (take i before)) (bits_of_row (take i row))

    old_long : length (bits_of_row (take i before)) ≡ i
    old_long = length-map (take i before) (λ (w : Value). w.bits) ∙ length-take-le i before (omega (arith, within, even))

    old_more : bits_of_row (take (i + 1) before) ≡ bits_of_row (take i before) ++ o.bits ∷ []
    old_more = ap bits_of_row (take_more before i o (omega (arith, within, even)) ∙ ap (λ w. take i before ++ w ∷ []) (sym was)) ∙ map-append (λ (w : Value). w.bits) (take i before) (o ∷ [])

    old_place : 0 + length (bits_of_row (take i before)) ≡ i
    old_place = omega (arith, old_long)

    next : changes 0 (bits_of_row (take (i + 1) before)) (bits_of_row (take (i + 1) row)) ≡ told ++ cond (eqb o.bits v.bits) [] (Change i v.bits ∷ [])
    next = ap₂ (changes 0) old_more bits_more
        ∙ (changes_more 0 (bits_of_row (take i before)) (bits_of_row (take i row)) o.bits v.bits (old_long ∙ sym long) ∙ ap (λ k. told ++ cond (eqb o.bits v.bits) [] (Change k v.bits ∷ [])) old_place)

    next_if : (z : Bool) → eqb o.bits v.bits ≡ z → changes 0 (bits_of_row (take (i + 1) before)) (bits_of_row (take (i + 1) row)) ≡ told ++ cond z [] (Change i v.bits ∷ [])
    next_if z e = next ∙ ap (λ z. told ++ cond z [] (Change i v.bits ∷ [])) e

    pub none_more : (c : ℕ) (text : List ℕ) → o.bits ≡ v.bits → text ≡ entries_text (widths_of_row row) (stamped c told)
        → text ≡ entries_text (widths_of_row row) (stamped c (changes 0 (bits_of_row (take (i + 1) before)) (bits_of_row (take (i + 1) row))))
    none_more c text e is = is ∙ ap (λ es. entries_text (widths_of_row row) (stamped c es)) (sym (next_if true (eq-eqb o.bits v.bits e) ∙ append-nil told))

    pub first_more : (c : ℕ) (text stamp new : List ℕ) → (o.bits ≡ v.bits → ⊥) → text ≡ entries_text (widths_of_row row) (stamped c told) → text ≡ [] → stamp ≡ text ++ ended (entry_line (widths_of_row row) (Time c))
        → new ≡ stamp ++ ended (change_line v.width i v.bits)
        → new ≡ entries_text (widths_of_row row) (stamped c (changes 0 (bits_of_row (take (i + 1) before)) (bits_of_row (take (i + 1) row))))
    first_more c text stamp new ne is none time put =
        put ∙ (ap₂ (λ l m. l ++ ended m) (time ∙ ap (λ l. l ++ ended (entry_line (widths_of_row row) (Time c))) none) (sym line_is)
        ∙ (sym ((stamped_more (widths_of_row row) c told (Change i v.bits) text is).0 none) ∙ ap (λ es. entries_text (widths_of_row row) (stamped c es)) (sym (next_if false (ne_eqb o.bits v.bits ne)))))

    pub later_more : (c : ℕ) (text new : List ℕ) → (o.bits ≡ v.bits → ⊥) → text ≡ entries_text (widths_of_row row) (stamped c told) → (text ≡ [] → ⊥) → new ≡ text ++ ended (change_line v.width i v.bits)
        → new ≡ entries_text (widths_of_row row) (stamped c (changes 0 (bits_of_row (take (i + 1) before)) (bits_of_row (take (i + 1) row))))
    later_more c text new ne is some put =
        put ∙ (ap (λ m. text ++ ended m) (sym line_is)
        ∙ (sym ((stamped_more (widths_of_row row) c told (Change i v.bits) text is).1 some) ∙ ap (λ es. entries_text (widths_of_row row) (stamped c es)) (sym (next_if false (ne_eqb o.bits v.bits ne)))))
