-- The script of some codes is one, and each code follows it.
use Rattle.std.proofs.Common.{◌≡◌, ℕ, zero, suc, ◌+◌, ◌*◌, ◌^◌, ◌<◌, ◌≤◌, List, [], ◌∷◌, map, length, get_or, sym, refl, ap, ◌∙◌, subst, arith, lt_of_not-le, set}
use mathlib.Core.Option.{some, some-ne-none}
use native.Mathlib.Decide.{dec_le}
use Rattle.std.proofs.lemmas.List.{length-map}
use Rattle.std.proofs.lemmas.List.FromFn.{length-map-range_with_len, get_or-map-range_with_len}
use lib.ListN.{get_elem?}
use Rattle.bit_words.specs.declared.value.Value.{Value}
use Rattle.phase_core.specs.declared.model.Script.{Script}
use Rattle.phase_core.specs.declared.model.Publication.{Publication}
use Rattle.phase_core.specs.Script.{publications, round_of, published, published_all, values, IsPart, OwnRound, IsScript}
use Rattle.phase_core.proofs.Values.{length-values}
use Rattle.flat_code.specs.declared.code.Code.{Code}
use Rattle.flat_code.specs.Codes.{published_by}
use Rattle.partition_code.specs.Codes.{AreWords, owner_in, owners_of}
use Rattle.partition_code.proofs.Asked.{short_at}
use Rattle.crew_workers.specs.Codes.{row_at, Follows}
use Rattle.crew_workers.specs.Asked.{PublishOwn, AskedOfCodes, FewEach}
use Rattle.crew_workers.specs.Scripts.{round_by, rounds_by, script_of, Runs}
use Rattle.crew_workers.proofs.Spreads.{some_of}
use Rattle.crew_workers.proofs.Asked.{asked_of}

-- the words after c of these rounds
abbrev values_from : List (List (List Publication)) → List ℕ → ℕ → List ℕ
values_from rs ws zero = ws
values_from rs ws (suc c) = published_all (get_or rs c []) (values_from rs ws c)

values_is : (s : Script) (c : ℕ) → values s c ≡ values_from s.rounds s.first c
values_is s zero = refl
values_is s (suc c) = ap (λ l. published_all (get_or s.rounds c []) l) (values_is s c)

values_step : (r : List (List Publication)) (rs : List (List (List Publication))) (ws : List ℕ) (c : ℕ) → values_from (r ∷ rs) ws (suc c) ≡ values_from rs (published_all r ws) c
values_step r rs ws zero = refl
values_step r rs ws (suc c) = ap (λ l. published_all (get_or rs c []) l) (values_step r rs ws c)

rounds_at : (codes : List Code) (ws : List ℕ) (xs : List (List Value)) (c : ℕ) → c < length xs → get_or (rounds_by codes ws xs) c [] ≡ round_by codes (values_from (rounds_by codes ws xs) ws c) (row_at xs c)
rounds_at codes ws [] c h = absurd (omega arith)
rounds_at codes ws (x ∷ xs) zero h = refl
rounds_at codes ws (x ∷ xs) (suc c) h = let ws' = published_all (round_by codes ws x) ws in
    rounds_at codes ws' xs c (omega arith) ∙ ap (λ l. round_by codes l (row_at xs c)) (sym (values_step (round_by codes ws x) (rounds_by codes ws' xs) ws c))

length-rounds : (codes : List Code) (ws : List ℕ) (xs : List (List Value)) → length (rounds_by codes ws xs) ≡ length xs
length-rounds codes ws [] = refl
length-rounds codes ws (x ∷ xs) = ap suc (length-rounds codes (published_all (round_by codes ws x) ws) xs)

map_at : (f : Code → List Publication) (codes : List Code) (w : ℕ) (d : Code) → w < length codes → get_or (map f codes) w [] ≡ f (get_or codes w d)
map_at f [] w d h = absurd (omega arith)
map_at f (x ∷ xs) zero d h = refl
map_at f (x ∷ xs) (suc w) d h = map_at f xs w d (omega arith)

map_past : (f : Code → List Publication) (codes : List Code) (w : ℕ) → length codes ≤ w → get_or (map f codes) w [] ≡ []
map_past f [] w h = refl
map_past f (x ∷ xs) zero h = absurd (omega arith)
map_past f (x ∷ xs) (suc w) h = map_past f xs w (omega arith)

-- words stay words where words are stored
set_plain : (ws : List ℕ) (i v : ℕ) → AreWords ws → v < 2 ^ 64 → AreWords (set ws i v)
set_plain [] i v all small j = all j
set_plain (x ∷ xs) zero v all small zero = small
set_plain (x ∷ xs) zero v all small (suc j) = all (suc j)
set_plain (x ∷ xs) (suc i) v all small zero = all zero
set_plain (x ∷ xs) (suc i) v all small (suc j) = set_plain xs i v (λ k. all (suc k)) small j

abbrev Plain : List Publication → Type 0
Plain ps = (j : ℕ) (p : Publication) → get_elem? ps j ≡ some p → p.value < 2 ^ 64

part_plain : (ps : List Publication) (ws : List ℕ) → AreWords ws → Plain ps → AreWords (published ps ws)
part_plain [] ws all small = all
part_plain (p ∷ ps) ws all small = part_plain ps (set ws p.word p.value) (set_plain ws p.word p.value all (small zero p refl)) (λ j. small (suc j))

round_plain : (rs : List (List Publication)) (ws : List ℕ) → AreWords ws → ((w : ℕ) → Plain (get_or rs w [])) → AreWords (published_all rs ws)
round_plain [] ws all small = all
round_plain (r ∷ rs) ws all small = round_plain rs (published r ws) (part_plain r ws all (small zero)) (λ w. small (suc w))

module _ (codes : List Code) (words : List ℕ) (rows : List (List Value)) where
  abbrev s : Script
  s = script_of codes words rows

  -- the round of the cycle c is what the codes publish
  pub round_at : (c : ℕ) → c < length rows → round_of s c ≡ round_by codes (values s c) (row_at rows c)
  round_at c h = rounds_at codes words rows c h ∙ ap (λ l. round_by codes l (row_at rows c)) (sym (values_is s c))

  pub published_at : (c w : ℕ) (d : Code) → c < length rows → w < length codes → publications s c w ≡ published_by (get_or codes w d) (values s c) (row_at rows c)
  published_at c w d h h' = ap (λ l. get_or l w []) (round_at c h) ∙ map_at (λ code. published_by code (values s c) (row_at rows c)) codes w d h'

  -- the words at the beginning of the next cycle
  pub values_next : (c : ℕ) → c < length rows → values s (c + 1) ≡ published_all (round_by codes (values s c) (row_at rows c)) (values s c)
  values_next c h = ap (λ n. values s n) (let e : c + 1 ≡ suc c = omega arith in e) ∙ ap (λ r. published_all r (values s c)) (round_at c h)

  -- a fact of what each code publishes holds of each part of the round, where it holds of nothing
  each_part : (P : ℕ → List Publication → Type 0) (c : ℕ) → c < length rows → ((w : ℕ) → P w []) → ((w : ℕ) (d : Code) → w < length codes → P w (published_by (get_or codes w d) (values s c) (row_at rows c)))
      → (w : ℕ) → P w (get_or (round_by codes (values s c) (row_at rows c)) w [])
  each_part P c h none all w = let f : Code → List Publication = λ code. published_by code (values s c) (row_at rows c) in elim (dec_le (length codes) w) [
    | yes past ↦ subst (P w) (sym (map_past f codes w past)) (none w)
    | no inside ↦ let h' : w < length codes = lt_of_not-le inside in let d = some_of codes w h' in subst (P w) (sym (map_at f codes w d h')) (all w d h')
  ]

  module _ (runs : Runs codes words rows) where
    abbrev asked : AskedOfCodes codes (length words) rows
    asked = asked_of codes words rows runs

    -- the words of each cycle are words, and each code publishes words of its own
    pub plain_at : (c : ℕ) → c ≤ length rows → AreWords (values s c)
    plain_at zero h = runs.may.plain
    plain_at (suc c) h = let lt : c < length rows = omega (arith, h) in let o = asked.publish c (values s c) lt (plain_at c (omega (arith, h))) (length-values s c) in
        subst (λ r. AreWords (published_all r (values s c))) (sym (round_at c lt)) (round_plain (round_by codes (values s c) (row_at rows c)) (values s c) (plain_at c (omega (arith, h)))
        (each_part (λ w ps. Plain ps) c lt (λ w j p e. absurd (some-ne-none p (sym e))) (λ w d h' j p e. o.plain w j d p h' e)))

    pub publish_at : (c : ℕ) → c < length rows → PublishOwn codes (values s c) (row_at rows c)
    publish_at c h = asked.publish c (values s c) h (plain_at c (omega (arith, h))) (length-values s c)

    part_is : FewEach codes → (c w : ℕ) → c < length rows → IsPart s w (get_or (round_by codes (values s c) (row_at rows c)) w [])
    part_is few c w h = let o = publish_at c h in let n = length-values s c in each_part (IsPart s) c h
        (λ v. record { own = λ k p e. absurd (some-ne-none p (sym e)); counted = omega arith })
        (λ v d h'. record {
          own = λ k p e. let lt : p.word < length words = (let t = o.there v k d p h' e in omega (arith, t, n)) in (lt, get_or-map-range_with_len (owner_in codes) 0 (length words) p.word p.word 0 lt (omega arith) ∙ o.own v k d p h' e);
          counted = short_at codes words rows runs.may (values s c) c v d (few.each v d h');
        }) w

    pub script_is : FewEach codes → IsScript s
    script_is few = record {
      workers = asked.some_code;
      fits = runs.fits;
      owned = length-map-range_with_len (owner_in codes) 0 (length words);
      owners = λ i h. let n = length-map-range_with_len (owner_in codes) 0 (length words) in let lt : i < length words = omega (arith, h, n) in
          subst (λ k. k < length codes) (sym (get_or-map-range_with_len (owner_in codes) 0 (length words) i i 0 lt (omega arith))) (asked.owner_below i lt);
      rounds = length-rounds codes words rows;
      own = λ c h. let lt : c < length rows = (let n = length-rounds codes words rows in omega (arith, h, n)) in (
        ap length (round_at c lt) ∙ length-map codes (λ code. published_by code (values s c) (row_at rows c)),
        subst (OwnRound s) (sym (round_at c lt)) (λ w. part_is few c w lt),
      );
    }

    pub follows : (w : ℕ) (d : Code) → w < length codes → Follows s w (get_or codes w d) rows
    follows w d h = record {
      each_cycle = refl;
      words_are = asked.counted.each w d h;
      published = λ c h'. published_at c w d h' h;
    }
