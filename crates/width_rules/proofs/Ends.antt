-- Where each of several lists ends, the list that a search of the ends finds, and what is cut of it.
use Rattle.std.proofs.Common.{◌≡◌, ℕ, zero, suc, ◌+◌, ◌-◌, ◌≤◌, ◌<◌, leb, true, false, List, [], ◌∷◌, ◌++◌, take, drop, length, get_or, refl, sym, ap, ap₂, ◌∙◌, arith, length-append}
use Rattle.std.specs.Prelude.{Option, Some, slice_get}
use Rattle.std.specs.List.{AllWithin}
use Rattle.std.specs.List.Sorted.{IsNonDecreasingBy, IsPartitionedBy, IsPartitionPoint}
use Rattle.std.specs.Option.{unwrap_or}
use Rattle.std.proofs.lemmas.Bool.{leb-true, leb-false}
use Rattle.std.proofs.lemmas.Grind.{flat_map-append}
use Rattle.std.proofs.lemmas.List.{drop_all, drop_more, take_all, take_more, take-append-drop, length-take}
use Rattle.std.proofs.lemmas.List.Sorted.{IsPartitionedBy-leb}
use Rattle.std.proofs.lemmas.Option.{slice_get_read}
use Rattle.width_rules.specs.declared.slot.Slot.{Slot}
use Rattle.width_rules.specs.Lists.{joined, ends_behind, ReachesBeyond}
use Rattle.width_rules.proofs.Cuts.{cut_two}

-- how many widths there are in the first lists
abbrev before : ℕ → List (List Slot) → ℕ
before k lists = length (joined (take k lists))

before_more : (own : List Slot) (lists : List (List Slot)) (k : ℕ) → before (suc k) (own ∷ lists) ≡ length own + before k lists
before_more own lists k = length-append own (joined (take k lists))

before_is : (lists : List (List Slot)) (k : ℕ) (own : List Slot) → k < length lists → own ≡ get_or lists k own → before (suc k) lists ≡ before k lists + length own
before_is [] k own lt is = absurd (omega (arith, lt))
before_is (x ∷ lists) zero own lt is = omega (arith, before_more x lists 0, ap length is)
before_is (x ∷ lists) (suc k) own lt is = omega (arith, before_more x lists (suc k), before_more x lists k, before_is lists k own (omega (arith, lt)) is)

before_rises : (lists : List (List Slot)) (i j : ℕ) → i ≤ j → before i lists ≤ before j lists
before_rises lists zero j le = omega arith
before_rises [] (suc i) zero le = absurd (omega (arith, le))
before_rises [] (suc i) (suc j) le = omega arith
before_rises (own ∷ lists) (suc i) zero le = absurd (omega (arith, le))
before_rises (own ∷ lists) (suc i) (suc j) le = omega (arith, before_more own lists i, before_more own lists j, before_rises lists i j (omega (arith, le)))

-- The ends

as_many : (n : ℕ) (lists : List (List Slot)) → length (ends_behind n lists) ≡ length lists
as_many n [] = refl
as_many n (own ∷ lists) = ap suc (as_many (n + length own) lists)

end_at : (n : ℕ) (lists : List (List Slot)) (k d : ℕ) → k < length lists → get_or (ends_behind n lists) k d ≡ n + before (suc k) lists
end_at n [] k d lt = absurd (omega (arith, lt))
end_at n (own ∷ lists) zero d lt = omega (arith, before_more own lists 0)
end_at n (own ∷ lists) (suc k) d lt = omega (arith, end_at (n + length own) lists k d (omega (arith, lt)), before_more own lists (suc k))

module _ (lists : List (List Slot)) (ends : List ℕ) (are : ends ≡ ends_behind 0 lists) where
  pub as_many_ends : length ends ≡ length lists
  as_many_ends = ap length are ∙ as_many 0 lists

  read_end : (k d : ℕ) → k < length lists → get_or ends k d ≡ before (suc k) lists
  read_end k d lt = omega (arith, ap (λ l. get_or l k d) are, end_at 0 lists k d lt)

  ends_rise : IsNonDecreasingBy (λ n. n) ends
  ends_rise i j d le lt =
      let within : j < length lists = omega (arith, lt, as_many_ends) in
      omega (arith, read_end i d (omega (arith, le, within)), read_end j d within, before_rises lists (suc i) (suc j) (omega (arith, le)))

  pub ends_parted : (start : ℕ) → IsPartitionedBy (λ n. leb n start) ends
  ends_parted start = IsPartitionedBy-leb (λ n. n) ends start ends_rise

  begins_low : (start k : ℕ) → k ≤ length ends → AllWithin (λ n. leb n start ≡ true) ends 0 k → before k lists ≤ start
  begins_low start zero le low = omega arith
  begins_low start (suc k) le low =
      let lt : k < length lists = omega (arith, le, as_many_ends) in
      omega (arith, read_end k 0 lt, leb-true (get_or ends k 0) start (low k 0 (omega arith) (omega arith)))

  -- what a search of the ends finds
  pub list_found : (start k : ℕ) (own : List Slot) (end : ℕ) → IsPartitionPoint (λ n. leb n start ≡ true) (λ n. leb n start ≡ false) ends k → k ≤ length ends → k < length lists
      → own ≡ get_or lists k own → end ≡ get_or ends k 0 → ReachesBeyond lists start own end
  list_found start k own end parts le lt got at = record {
    front = take k lists;
    behind = drop (k + 1) lists;
    stands = sym (take-append-drop k lists) ∙ ap (λ l. take k lists ++ l) (drop_more lists k own lt ∙ ap (λ x. x ∷ drop (k + 1) lists) (sym got));
    begins = begins_low start k le parts.0;
    beyond = rw at (leb-false (get_or ends k 0) start (parts.1 k 0 (omega arith) (omega (arith, lt, as_many_ends))));
    ends = omega (arith, at, read_end k 0 lt, before_is lists k own lt got);
  }

  pub none_found : (start k : ℕ) → IsPartitionPoint (λ n. leb n start ≡ true) (λ n. leb n start ≡ false) ends k → k ≤ length ends → length lists ≤ k → length (joined lists) ≤ start
  none_found start k parts le all = omega (arith, begins_low start k le parts.0, ap (λ l. length (joined l)) (take_all k lists all))

-- the last end is how many widths there are
pub last_end : (lists : List (List Slot)) (ends : List ℕ) (o : Option ℕ) → ends ≡ ends_behind 0 lists → o ≡ slice_get ends (length ends - 1) → unwrap_or o 0 ≡ length (joined lists)
last_end [] ends o are is = ap (λ o. unwrap_or o 0) (is ∙ ap (λ l. slice_get l (length l - 1)) are)
last_end (own ∷ rest) ends o are is =
    let lists : List (List Slot) = own ∷ rest in
    let many : length ends ≡ length lists = as_many_ends lists ends are in
    let all : ℕ = before (suc (length rest)) lists in
    let read : slice_get ends (length rest) ≡ Some all
    = slice_get_read ends (length ends) (length rest) all refl (omega (arith, many)) (sym (read_end lists ends are (length rest) all (omega arith))) in
    ap (λ o. unwrap_or o 0) (is ∙ ap (slice_get ends) (let z : length ends - 1 ≡ length rest = omega (arith, many) in z) ∙ read)
    ∙ ap (λ l. length (joined l)) (take_all (suc (length rest)) lists (omega arith))

-- one end more
pub record AreEnds (lists : List (List Slot)) (i : ℕ) (ends : List ℕ) (end : ℕ) : Type 0 where
  pub ends_are : ends ≡ take i (ends_behind 0 lists)
  pub end_is : end ≡ before i lists

pub ends_more : (lists : List (List Slot)) (i : ℕ) (own : List Slot) (ends after : List ℕ) (end behind : ℕ) → i < length lists → own ≡ get_or lists i own → AreEnds lists i ends end
    → after ≡ ends ++ behind ∷ [] → behind ≡ end + length own → AreEnds lists (i + 1) after behind
ends_more lists i own ends after end behind lt is h a b =
    let more : behind ≡ before (suc i) lists = b ∙ ap (λ n. n + length own) h.end_is ∙ sym (before_is lists i own lt is) in
    let read : behind ≡ get_or (ends_behind 0 lists) i 0 = omega (arith, more, end_at 0 lists i 0 lt) in
    record {
      ends_are = a ∙ ap₂ (λ l n. l ++ n ∷ []) h.ends_are read ∙ sym (take_more (ends_behind 0 lists) i 0 (omega (arith, lt, as_many 0 lists)));
      end_is = more ∙ ap (λ n. before n lists) (let e : suc i ≡ i + 1 = omega arith in e);
    }

pub ends_all : (lists : List (List Slot)) (i : ℕ) (ends : List ℕ) (end : ℕ) → length lists ≤ i → AreEnds lists i ends end → ends ≡ ends_behind 0 lists
ends_all lists i ends end le h = h.ends_are ∙ take_all i (ends_behind 0 lists) (omega (arith, le, as_many 0 lists))

-- Pieces

none_from : (s e : ℕ) (xs : List Slot) → length xs ≤ s → drop s (take e xs) ≡ []
none_from s e xs le = drop_all s (take e xs) (omega (arith, le, length-take e xs))

cut_behind : (s e : ℕ) (p r : List Slot) → length p ≤ s → drop s (take e (p ++ r)) ≡ drop (s - length p) (take (e - length p) r)
cut_behind s e p r le = cut_two s e p r ∙ ap (λ l. l ++ drop (s - length p) (take (e - length p) r)) (none_from s e p le)

-- the widths of one list, and those behind it
pub piece_of : (lists : List (List Slot)) (own : List Slot) (s e end from to : ℕ) → ReachesBeyond lists s own end → from ≡ s - (end - length own) → to ≡ e - (end - length own)
    → drop s (take e (joined lists)) ≡ drop from (take to own) ++ drop end (take e (joined lists))
piece_of lists own s e end from to h f t = first ∙ ap (λ l. drop from (take to own) ++ l) (sym second)
  where
    p : List Slot
    p = joined h.front

    r : List Slot
    r = joined h.behind

    at : end ≡ length p + length own
    at = h.ends

    whole : joined lists ≡ p ++ (own ++ r)
    whole = ap joined h.stands ∙ flat_map-append (λ (l : List Slot). l) h.front (own ∷ h.behind)

    rest : List Slot
    rest = drop 0 (take (to - length own) r)

    first : drop s (take e (joined lists)) ≡ drop from (take to own) ++ rest
    first =
        ap (λ l. drop s (take e l)) whole ∙ cut_behind s e p (own ++ r) h.begins
        ∙ ap₂ (λ a b. drop a (take b (own ++ r))) (let z : s - length p ≡ from = omega (arith, at, f) in z) (let z : e - length p ≡ to = omega (arith, at, t) in z)
        ∙ cut_two from to own r ∙ ap (λ n. drop from (take to own) ++ drop n (take (to - length own) r)) (let z : from - length own ≡ 0 = omega (arith, at, f, h.beyond) in z)

    second : drop end (take e (joined lists)) ≡ rest
    second =
        ap (λ l. drop end (take e l)) whole ∙ cut_behind end e p (own ++ r) (omega (arith, at)) ∙ cut_behind (end - length p) (e - length p) own r (omega (arith, at))
        ∙ ap₂ (λ a b. drop a (take b r)) (let z : end - length p - length own ≡ 0 = omega (arith, at) in z) (let z : e - length p - length own ≡ to - length own = omega (arith, at, t) in z)
