-- Adding a text to numbered texts.
use Rattle.std.proofs.Common.{◌≡◌, ℕ, ◌+◌, ◌<◌, ◌≤◌, List, [], ◌∷◌, ◌++◌, true, false, map, length, refl, sym, ap, ◌∙◌, get_or, length-append, String, Global, arith, cond, ⊎_elim, not}
use Rattle.std.specs.Prelude.{Some, None, Contains, string_bytes}
use Rattle.std.specs.Str.{bytes_eq}
use Rattle.std.specs.List.{AllZip, position_or_len}
use Rattle.std.specs.Map.{lookup}
use Rattle.std.specs.Ordering.{is_eq, nat_cmp}
use Rattle.std.specs.Cmp.Lexicographic.{slice_cmp, nat_list_eq_equiv}
use Rattle.std.specs.BTreeMap.{BTreeMap, get_by_text, UpdatesBy}
use Rattle.std.specs.String.{string_cmp}
use Rattle.std.proofs.lemmas.Bool.{cases_Bool}
use Rattle.std.proofs.lemmas.Grind.{common_steps}
use Rattle.std.proofs.lemmas.Map.Text.{btree_map_updates_text}
use Rattle.std.proofs.lemmas.Slice.Eq.{bytes_eq-Decides}
use Rattle.std.proofs.lemmas.List.{map_push}
use Rattle.std.proofs.Math.Seq.{get_or-append_seam}
use Rattle.std.proofs.lemmas.List.Quantifiers.{position-Some}
use Rattle.std.proofs.lemmas.List.Sums.{fails_before_first, prefix_len-le-length}
use Rattle.std.proofs.lemmas.List.Folds.{position_or_len_push}
use Rattle.std.proofs.lemmas.Option.{slice_get-get_or}
use Rattle.fir_tree.specs.Numbered.{AddsName}
use Rattle.fir_tree.specs.Naming.{number_in, FindsNumbers}

abbrev pub Text : Type 0
Text = String Global

-- a number that is found is that of the text
pub number_is : (texts : List (List ℕ)) (text : List ℕ) (id : ℕ) → number_in texts text ≡ Some id → (id < length texts) × (get_or texts id text ≡ text)
number_is texts text id found =
    let at = position-Some (λ other. bytes_eq text other) texts id text found in (at.0, sym ((bytes_eq-Decides text (get_or texts id text)).0 at.1))

pub known_name : (texts : List (List ℕ)) (text : List ℕ) (id : ℕ) → number_in texts text ≡ Some id → AddsName texts texts text id
known_name texts text id found =
    let at = number_is texts text id found in
    record {
      known = λ c. refl;
      added = λ none. absurd (none (id, at.0, at.1));
      number = slice_get-get_or texts id text at.0 ∙ ap Some at.1;
    }

-- a text without a number isn't there
pub no_number : (texts : List (List ℕ)) (text : List ℕ) → number_in texts text ≡ None → Contains texts text → ⊥
no_number texts text none (i, lt, e) =
    let none' : length texts ≤ position_or_len (λ other. bytes_eq text other) texts = grind (arith, common_steps, none) in
    let differs : bytes_eq text (get_or texts i text) ≡ false = fails_before_first (λ other. bytes_eq text other) texts i text (omega arith) in
    let same : bytes_eq text (get_or texts i text) ≡ true = (bytes_eq-Decides text (get_or texts i text)).1 (sym e) in
    cc

pub new_name : (texts : List (List ℕ)) (text : List ℕ) → number_in texts text ≡ None → AddsName texts (texts ++ text ∷ []) text (length texts)
new_name texts text none = record {
  known = λ c. absurd (no_number texts text none c);
  added = λ _. refl;
  number = slice_get-get_or (texts ++ text ∷ []) (length texts) text (omega (arith, length-append texts (text ∷ []))) ∙ ap Some (get_or-append_seam texts text [] text);
}

-- the number of a text once one more is there
number_more : (texts : List (List ℕ)) (key text : List ℕ) → number_in texts key ≡ None
    → number_in (texts ++ key ∷ []) text ≡ cond (bytes_eq key text) (Some (length texts)) (number_in texts text)
number_more texts key text none =
    let short : position_or_len (λ other. bytes_eq text other) texts ≤ length texts = prefix_len-le-length (λ other. not (bytes_eq text other)) texts in
    let longest : length (texts ++ key ∷ []) ≡ length texts + 1 = length-append texts (key ∷ []) in
    let longer = position_or_len_push (λ other. bytes_eq text other) texts key in
    ⊎_elim
    (λ (same : bytes_eq key text ≡ true).
    let equal : key ≡ text = (bytes_eq-Decides key text).0 same in
    let turned : bytes_eq text key ≡ true = (bytes_eq-Decides text key).1 (sym equal) in
    let none' : number_in texts text ≡ None = rw equal at none in
    grind (arith, common_steps, longest, longer, same, turned, none'))
    (λ (other : bytes_eq key text ≡ false).
    let turned : bytes_eq text key ≡ false = nat_list_eq_equiv.symm text key ∙ other in
    grind (arith, common_steps, longest, longer, other, turned))
    (cases_Bool (bytes_eq key text))

pub more_numbers : (old new : BTreeMap Text ℕ) (texts : List (List ℕ)) (key : Text) → FindsNumbers old texts → number_in texts (string_bytes key) ≡ None
    → UpdatesBy string_cmp (string_cmp key) old new (Some (length texts)) → FindsNumbers new (texts ++ string_bytes key ∷ [])
more_numbers old new texts key finds none updates = record {
  finds = λ text.
      let before : get_by_text old text ≡ number_in texts text = finds.finds text in
      let after = btree_map_updates_text (string_bytes key) old new (Some (length texts)) updates text in
      let longest : length (texts ++ string_bytes key ∷ []) ≡ length texts + 1 = length-append texts (string_bytes key ∷ []) in
      let longer = position_or_len_push (λ other. bytes_eq text other) texts (string_bytes key) in
      after ∙ ap (λ w. cond (bytes_eq (string_bytes key) text) (Some (length texts)) w) before ∙ sym (number_more texts (string_bytes key) text none);
}

pub same_numbers : (old new : BTreeMap Text ℕ) (texts : List (List ℕ)) → FindsNumbers old texts → new.entries ≡ old.entries → FindsNumbers new texts
same_numbers old new texts finds same = record { finds = λ text. ap (lookup (λ k. is_eq (slice_cmp nat_cmp text (string_bytes k)))) same ∙ finds.finds text }

pub cloned_texts : (old new : List Text) → AllZip (λ x y. string_bytes y ≡ string_bytes x) old new → map string_bytes new ≡ map string_bytes old
cloned_texts [] [] zip = refl
cloned_texts [] (y ∷ ys) zip = absurd zip
cloned_texts (x ∷ xs) [] zip = absurd zip
cloned_texts (x ∷ xs) (y ∷ ys) zip = let head = zip.0 in let tail = cloned_texts xs ys zip.1 in cc

cloned_entries : (text : List ℕ) (old new : List (Text × ℕ)) → AllZip (λ p q. (string_bytes q.0 ≡ string_bytes p.0) × (q.1 ≡ p.1)) old new
    → lookup (λ k. is_eq (slice_cmp nat_cmp text (string_bytes k))) new ≡ lookup (λ k. is_eq (slice_cmp nat_cmp text (string_bytes k))) old
cloned_entries text [] [] zip = refl
cloned_entries text [] (y ∷ ys) zip = absurd zip
cloned_entries text (x ∷ xs) [] zip = absurd zip
cloned_entries text (x ∷ xs) (y ∷ ys) zip =
    let key = zip.0.0 in
    let value = zip.0.1 in
    rw (key, value, cloned_entries text xs ys zip.1)

pub cloned_numbers : (old new : BTreeMap Text ℕ) (texts : List (List ℕ)) → FindsNumbers old texts
    → AllZip (λ p q. (string_bytes q.0 ≡ string_bytes p.0) × (q.1 ≡ p.1)) old.entries new.entries → FindsNumbers new texts
cloned_numbers old new texts finds zip = record { finds = λ text. cloned_entries text old.entries new.entries zip ∙ finds.finds text }

pub pushed_texts : (keys : List Text) (owned key : Text) → string_bytes owned ≡ string_bytes key → map string_bytes (keys ++ owned ∷ []) ≡ map string_bytes keys ++ string_bytes key ∷ []
pushed_texts keys owned key same = map_push string_bytes keys owned ∙ ap (λ text. map string_bytes keys ++ text ∷ []) same
