-- Rows that are joined cycle by cycle.
use Rattle.std.proofs.Common.{◌≡◌, ℕ, ◌+◌, ◌<◌, ◌≤◌, ◌⊎◌, inl, inr, ⊎_elim, List, [], ◌∷◌, ◌++◌, length, get_or, set, get_or-set_other, length-set, sym, ap, ◌∙◌, subst, arith, lt_of_not-le}
use Rattle.std.proofs.lemmas.List.{get_or_default}
use Rattle.std.proofs.lemmas.Option.{slice_get-get_or}
use native.Mathlib.Decide.{ℕ_discrete, dec_le}
use mathlib.Core.Logic.{dite}
use Rattle.bit_words.specs.declared.value.Value.{Value}
use Rattle.phase_core.specs.declared.model.Script.{Script}
use Rattle.phase_core.specs.Script.{values}
use Rattle.flat_code.specs.declared.code.Code.{Code}
use Rattle.flat_code.specs.Codes.{outputs_by}
use Rattle.crew_workers.specs.Codes.{row_at}
use Rattle.crew_workers.specs.Places.{HasPlaces}
use Rattle.crew_workers.specs.Scripts.{Outputs}
use Rattle.crew_workers.proofs.Rows.{outputs_many}
use Rattle.crew_workers.proofs.Spreads.{first_of, last_of, length_push}
use Rattle.worker_crew.specs.Crew.{Task, Parts}
use Rattle.worker_crew.specs.Joins.{AreInTurn, LetGo, Remain, IsJoined, AreJoined}

module _ (initial now new : List (List (List Value))) (cycle n : ℕ) (all : n ≤ length now) (go : LetGo cycle now new n) where
  after_of : (k : ℕ) → (get_or new k [] ≡ set (get_or now k []) cycle []) ⊎ (get_or new k [] ≡ get_or now k [])
  after_of k = elim (dec_le n k) [
    | yes past ↦ inr (go.left k [] past)
    | no inside ↦ let lt : k < n = lt_of_not-le inside in inl (go.done k [] lt (omega (arith, lt, all)))
  ]

  -- the rows of a cycle were let go
  pub remain_next : Remain initial now cycle → Remain initial new (cycle + 1)
  remain_next r = record {
    many = go.many ∙ r.many;
    long = λ k. ⊎_elim (λ (e : get_or new k [] ≡ set (get_or now k []) cycle []). ap length e ∙ length-set (get_or now k []) cycle []) (λ e. ap length e) (after_of k) ∙ r.long k;
    each = λ k c le. ⊎_elim (λ (e : get_or new k [] ≡ set (get_or now k []) cycle []). ap (λ l. get_or l c []) e ∙ get_or-set_other (get_or now k []) cycle c [] [] (λ same. absurd (omega (arith, le, same)))) (λ e. ap (λ l. get_or l c []) e) (after_of k)
        ∙ r.each k c (omega (arith, le));
  }

-- what is joined from rows that remain
pub joined_of : (codes : List Code) (initial now : List (List (List Value))) (cycle m : ℕ) (row : List Value) → Remain initial now cycle → IsJoined codes now cycle row m → IsJoined codes initial cycle row m
joined_of codes initial now cycle m row r i = record { each = λ k j d v lt in_part. i.each k j d v lt in_part ∙ ap (λ l. get_or l j v) (r.each k cycle (omega arith)) }

pub joined_push : (codes : List Code) (parts : List (List (List Value))) (rows : List (List Value)) (row : List Value) → AreJoined codes parts rows → HasPlaces codes (length row) → IsJoined codes parts (length rows) row (length codes)
    → AreJoined codes parts (rows ++ row ∷ [])
joined_push codes parts rows row a places here = record {
  places = λ c lt. dite (ℕ_discrete c (length rows))
      (λ same. subst (λ r. HasPlaces codes (length r)) (sym (ap (λ k. get_or (rows ++ row ∷ []) k []) same ∙ last_of rows row [])) places)
      (λ other. let long = length_push rows row in let below : c < length rows = omega (arith, lt, other, long) in subst (λ r. HasPlaces codes (length r)) (sym (first_of rows row c [] below)) (a.places c below));
  joined = λ c lt. dite (ℕ_discrete c (length rows))
      (λ same. subst (λ k. IsJoined codes parts k (get_or (rows ++ row ∷ []) k []) (length codes)) (sym same) (subst (λ r. IsJoined codes parts (length rows) r (length codes)) (sym (last_of rows row [])) here))
      (λ other. let long = length_push rows row in let below : c < length rows = omega (arith, lt, other, long) in
      subst (λ r. IsJoined codes parts c r (length codes)) (sym (first_of rows row c [] below)) (a.joined c below));
}

-- the rows of the whole epoch
pub outputs_joined : (s : Script) (t : Task) (parts : List (List (List Value))) (rows : List (List Value)) → Parts s t parts 0 → AreJoined t.codes parts rows → length rows ≡ s.cycles → Outputs s t.codes t.rows rows s.cycles
outputs_joined s t parts rows p a many = record {
  many = many;
  each = λ c lt. let lt' : c < length rows = omega (arith, lt, many) in record {
    places = a.places c lt';
    each = λ k j d v h in_part. let long = p.many k (omega arith) h in (a.joined c lt').each k j d v h in_part ∙ ap (λ l. get_or l j v) ((p.each k d (omega arith) h).each c (omega (arith, lt, long)));
  };
}

-- the rows of an epoch of one code whose positions are in turn
module _ (s : Script) (t : Task) (parts : List (List (List Value))) (p : Parts s t parts 0) (one : length t.codes ≡ 1) (turn : (d : Code) → AreInTurn (get_or t.codes 0 d).positions) where
  abbrev rows : List (List Value)
  rows = get_or parts 0 []

  first : 0 < length t.codes
  first = omega (arith, one)

  row_is : (c : ℕ) (d : Code) → c < s.cycles → get_or rows c [] ≡ outputs_by (get_or t.codes 0 d) (values s c) (row_at t.rows c)
  row_is c d lt = let long = p.many 0 (omega arith) first in (p.each 0 d (omega arith) first).each c (omega (arith, lt, long))

  long : (c : ℕ) (d : Code) → c < s.cycles → length (get_or rows c []) ≡ length (get_or t.codes 0 d).positions
  long c d lt = ap length (row_is c d lt) ∙ outputs_many t.codes 0 d (values s c) (row_at t.rows c)

  only : (k : ℕ) → k < length t.codes → k ≡ 0
  only k h = omega (arith, h, one)

  -- a code of the list, which has one
  some : (l : List Code) → 0 < length l → Code
  some [] h = absurd (omega arith)
  some (x ∷ xs) h = x

  at : (k j : ℕ) (d : Code) → k < length t.codes → j < length (get_or t.codes k d).positions → get_or (get_or t.codes k d).positions j 0 ≡ j
  at k j d h in_part = subst (λ n. j < length (get_or t.codes n d).positions → get_or (get_or t.codes n d).positions j 0 ≡ j) (sym (only k h)) ((turn d).each j) in_part

  all_places : (c : ℕ) → c < s.cycles → HasPlaces t.codes (length (get_or rows c []))
  all_places c lt = record {
    below = record {
      each = λ k j d h in_part. let n = long c d lt in let here = at k j d h in_part in
          let inside : j < length (get_or t.codes 0 d).positions = subst (λ m. j < length (get_or t.codes m d).positions) (only k h) in_part in omega (arith, n, here, inside);
    };
    no_other = λ i h. let d = some t.codes first in let n = long c d lt in let inside : i < length (get_or t.codes 0 d).positions = omega (arith, n, h) in record {
      number = 0;
      code = get_or t.codes 0 d;
      there = slice_get-get_or t.codes 0 d first;
      here = (i, inside, get_or_default (get_or t.codes 0 d).positions i i 0 inside ∙ at 0 i d first inside);
    };
  }

  pub outputs_whole : Outputs s t.codes t.rows rows s.cycles
  outputs_whole = record {
    many = p.many 0 (omega arith) first;
    each = λ c lt. record {
      places = all_places c lt;
      each = λ k j d v h in_part.
          ap (λ n. get_or (get_or rows c []) n v) (at k j d h in_part) ∙ ap (λ l. get_or l j v) (row_is c d lt ∙ ap (λ n. outputs_by (get_or t.codes n d) (values s c) (row_at t.rows c)) (sym (only k h)));
    };
  }
