-- What a loop over codes makes of their effects and of a row.
use Rattle.std.proofs.Common.{◌≡◌, ◌≢◌, ℕ, zero, suc, ◌+◌, ◌<◌, ◌≤◌, List, [], ◌∷◌, ◌++◌, map, length, get_or, set, length-set, sym, refl, ap, ◌∙◌, subst, arith, vec_capacity}
use Rattle.std.proofs.lemmas.List.{get_or_default, ext_get_or, get_or-map, length-map}
use native.Mathlib.Decide.{ℕ_discrete}
use mathlib.Core.Logic.{dite}
use Rattle.bit_words.specs.declared.value.Value.{Value}
use Rattle.phase_core.specs.declared.model.Publication.{Publication}
use Rattle.phase_core.specs.declared.model.Script.{Script}
use Rattle.phase_core.specs.Script.{values}
use Rattle.flat_code.specs.declared.code.Code.{Code}
use Rattle.flat_code.specs.declared.running.Effects.{Effects}
use Rattle.flat_code.specs.Meaning.{location_value, ran}
use Rattle.flat_code.specs.Codes.{published_by, outputs_by, most_publications, most_outputs, zeros}
use Rattle.crew_workers.specs.Codes.{row_at}
use Rattle.crew_workers.specs.Spreads.{Apart, AreBelow, Placed}
use Rattle.crew_workers.specs.Places.{Below, HasPlaces, OwnPlaces}
use Rattle.crew_workers.specs.Scripts.{round_by, RowOf, Outputs}
use Rattle.crew_workers.specs.Turns.{Roomy, Evaluated, parts_of, RowFrom}
use Rattle.crew_workers.proofs.Spreads.{some_of, pair_next, first_of, last_of, length_push}

-- each code has an output for each of its positions
pub outputs_many : (codes : List Code) (k : ℕ) (d : Code) (ws : List ℕ) (x : List Value) → length (outputs_by (get_or codes k d) ws x) ≡ length (get_or codes k d).positions
outputs_many codes k d ws x = let code = get_or codes k d in length-map code.shown (location_value (ran code.wides code.instrs ws x (zeros code))) ∙ sym code.each_shown

-- the positions of one code
pub own_apart : (codes : List Code) → OwnPlaces codes → (k : ℕ) (x : Code) → k < length codes → x ≡ get_or codes k x → (ps : List ℕ) → ps ≡ x.positions → Apart ps
own_apart codes o k x h is ps at = subst Apart (sym (at ∙ ap (λ (z : Code). z.positions) is)) (λ i j a b e. o.apart k i j x h a b e)

pub below_of : (codes : List Code) (n : ℕ) → Below codes (length codes) n → (k : ℕ) (x : Code) → k < length codes → x ≡ get_or codes k x → (ps : List ℕ) → ps ≡ x.positions → AreBelow n ps
below_of codes n b k x h is ps at = subst (AreBelow n) (sym (at ∙ ap (λ (z : Code). z.positions) is)) (λ j lt. b.each k j x h lt)

pub below_next : (codes : List Code) (n w w' : ℕ) (x : Code) (ps : List ℕ) → Below codes n w → n < length codes → x ≡ get_or codes n x → ps ≡ x.positions → w ≤ w' → AreBelow w' ps → Below codes (n + 1) w'
below_next codes n w w' x ps b h is at le all = record {
  each = λ k j d lt in_part. dite (ℕ_discrete k n)
      (λ same. let ps_are : (get_or codes k d).positions ≡ ps = ap (λ (z : Code). z.positions) (ap (λ m. get_or codes m d) same ∙ get_or_default codes n d x h ∙ sym is) ∙ sym at in
      subst (λ (l : List ℕ). get_or l j 0 < w') (sym ps_are) (all j (subst (λ (l : List ℕ). j < length l) ps_are in_part)))
      (λ other. let less = b.each k j d (omega (arith, lt, other)) in_part in omega (arith, less, le));
}

pub places_below : (codes : List Code) (n : ℕ) → HasPlaces codes n → (k : ℕ) (x : Code) → k < length codes → x ≡ get_or codes k x → (ps : List ℕ) → ps ≡ x.positions → AreBelow n ps
places_below codes n p k x h is ps at = below_of codes n p.below k x h is ps at

pub roomy_next : (codes : List Code) (es : List Effects) (i : ℕ) (x : Code) (y : Effects) → Roomy codes es → i < length codes → x ≡ get_or codes i x
    → most_publications x ≤ vec_capacity y.publications → most_outputs x ≤ vec_capacity y.outputs → Roomy codes (set es i y)
roomy_next codes es i x y r h is a b = let h' : i < length es = (let m = r.many in omega (arith, m, h)) in record {
  many = length-set es i y ∙ r.many;
  publications = pair_next (λ (c : Code) (f : Effects). most_publications c ≤ vec_capacity f.publications) codes es i (length codes) x y h h' is a (λ k d e lt _. r.publications k d e lt);
  outputs = pair_next (λ (c : Code) (f : Effects). most_outputs c ≤ vec_capacity f.outputs) codes es i (length codes) x y h h' is b (λ k d e lt _. r.outputs k d e lt);
}

pub evaluated_next : (codes : List Code) (ws : List ℕ) (x : List Value) (es : List Effects) (i : ℕ) (c : Code) (y : Effects) → Evaluated codes ws x es i → i < length codes → i < length es → c ≡ get_or codes i c
    → y.publications.items ≡ published_by c ws x → y.outputs.items ≡ outputs_by c ws x → Evaluated codes ws x (set es i y) (i + 1)
evaluated_next codes ws x es i c y v h h' is a b = record {
  publications = pair_next (λ (d : Code) (f : Effects). f.publications.items ≡ published_by d ws x) codes es i (i + 1) c y h h' is a (λ k d e lt other. v.publications k d e (omega (arith, lt, other)));
  outputs = pair_next (λ (d : Code) (f : Effects). f.outputs.items ≡ outputs_by d ws x) codes es i (i + 1) c y h h' is b (λ k d e lt other. v.outputs k d e (omega (arith, lt, other)));
}

-- what all codes published is the round
pub parts_round : (codes : List Code) (ws : List ℕ) (x : List Value) (es : List Effects) → length es ≡ length codes → Evaluated codes ws x es (length codes) → parts_of es ≡ round_by codes ws x
parts_round codes ws x es many v =
    let f : Effects → List Publication = λ y. y.publications.items in let g : Code → List Publication = λ c. published_by c ws x in
    ext_get_or [] (map f es) (map g codes) (length-map es f ∙ many ∙ sym (length-map codes g))
    (λ i h. let n = length-map es f in let a : i < length es = omega (arith, h, n) in let b : i < length codes = omega (arith, a, many) in
    get_or-map f es i (some_of es i a) [] a ∙ v.publications i (some_of codes i b) (some_of es i a) b ∙ sym (get_or-map g codes i (some_of codes i b) [] b))

-- the outputs of the next code are put in the row
pub row_next : (codes : List Code) → OwnPlaces codes → (es : List Effects) (old new : List Value) (i : ℕ) (c : Code) (y : Effects) → RowFrom codes es old i → i < length codes → i < length es
    → c ≡ get_or codes i c → y ≡ get_or es i y → Placed c.positions y.outputs.items old new (length c.positions) → RowFrom codes es new (i + 1)
row_next codes own es old new i c y r h h' is is' p = record {
  each = λ k j d e v lt lt'. dite (ℕ_discrete k i)
      (λ same. let code : get_or codes k d ≡ c = ap (λ n. get_or codes n d) same ∙ get_or_default codes i d c h ∙ sym is in let effect : get_or es k e ≡ y = ap (λ n. get_or es n e) same ∙ get_or_default es i e y h' ∙ sym is' in
      ap (λ (z : Code). get_or new (get_or z.positions j 0) v) code ∙ p.here j v (subst (λ (z : Code). j < length z.positions) code lt') ∙ ap (λ (z : Effects). get_or z.outputs.items j v) (sym effect))
      (λ other. p.others (get_or (get_or codes k d).positions j 0) v (λ m below meets. let code : get_or codes i d ≡ c = get_or_default codes i d c h ∙ sym is in
      let below' : m < length (get_or codes i d).positions = subst (λ (z : Code). m < length z.positions) (sym code) below in
      other (own.one_code k i j m d d (omega (arith, lt, h)) h lt' below' (sym (ap (λ (z : Code). get_or z.positions m 0) code ∙ meets))))
      ∙ r.each k j d e v (omega (arith, lt, other)) lt');
}

-- a row of the outputs of all codes, each evaluated on the same words
pub row_of : (codes : List Code) (ws : List ℕ) (x row : List Value) (es : List Effects) → length es ≡ length codes → HasPlaces codes (length row) → RowFrom codes es row (length codes) → Evaluated codes ws x es (length codes) → RowOf codes ws x row
row_of codes ws x row es many places r v = record {
  places = places;
  each = λ k j d y lt lt'. let e = some_of es k (omega (arith, lt, many)) in r.each k j d e y lt lt' ∙ ap (λ l. get_or l j y) (v.outputs k d e lt);
}

-- the row of the next cycle is pushed
pub outputs_push : (s : Script) (codes : List Code) (rows outs : List (List Value)) (n : ℕ) (row : List Value) → Outputs s codes rows outs n → RowOf codes (values s n) (row_at rows n) row
    → Outputs s codes rows (outs ++ row ∷ []) (n + 1)
outputs_push s codes rows outs n row o r = let m = o.many in record {
  many = length_push outs row ∙ ap (λ k. k + 1) m;
  each = λ c lt. dite (ℕ_discrete c n)
      (λ same. subst (λ k. RowOf codes (values s k) (row_at rows k) (get_or (outs ++ row ∷ []) k [])) (sym same)
      (subst (RowOf codes (values s n) (row_at rows n)) (sym (ap (λ k. get_or (outs ++ row ∷ []) k []) (sym m) ∙ last_of outs row [])) r))
      (λ other. subst (RowOf codes (values s c) (row_at rows c)) (sym (first_of outs row c [] (omega (arith, lt, other, m)))) (o.each c (omega (arith, lt, other))));
}
