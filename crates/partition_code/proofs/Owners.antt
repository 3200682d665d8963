-- Which code owns a word, and what the codes of one cut publish.
use Rattle.std.proofs.Common.{◌≡◌, ⊎_elim, ℕ, zero, suc, ◌^◌, ◌<◌, ◌≤◌, Bool, true, false, List, [], ◌∷◌, length, slice_get, Some, if◌then◌else◌, refl, sym, subst, ap, ◌∙◌, arith}
use Rattle.std.specs.Prelude.{Contains}
use Rattle.std.proofs.lemmas.Option.{slice_get_within, slice_get_cases}
use Rattle.bit_words.specs.declared.value.Value.{Value}
use Rattle.phase_core.specs.declared.model.Publication.{Publication}
use Rattle.ground_net.specs.declared.net.Net.{Net}
use Rattle.ground_net.specs.declared.net.CutPart.{CutPart}
use Rattle.ground_net.specs.Grounds.{Instant}
use Rattle.ground_net.specs.Cones.{Sink, sinks}
use Rattle.ground_net.specs.Cycles.{NetState, Valuation, instant_of}
use Rattle.ground_net.specs.Words.{state_words, state_of}
use Rattle.flat_code.specs.declared.code.Code.{Code}
use Rattle.flat_code.specs.Codes.{published_by}
use Rattle.partition_code.specs.Effects.{HasWord, sink_told, sinks_told}
use Rattle.partition_code.proofs.Parts.{word_below}
use Rattle.partition_code.proofs.Blocks.{some_same, none_some}
use Rattle.partition_code.proofs.Lists.{Each, each_flat, item_at, among, from_filter_map, to_filter_map}
use Rattle.partition_code.proofs.Standing.{one_place, each_word}
use Rattle.partition_code.proofs.Told.{told_own}
use Rattle.partition_code.proofs.Changes.{each_changed}
use Rattle.partition_code.specs.Codes.{register_words, sinks_of_part, owns, owner_in, HasWordAmong, IsCycle, AreOfOneCut}

-- an item of a list that is as long as another one
pub beside : {A B : Type 0} (xs : List A) (ys : List B) (k : ℕ) (x : A) → length ys ≡ length xs → slice_get xs k ≡ Some x → (y : B) × (slice_get ys k ≡ Some y)
beside xs ys k x long e = ⊎_elim
    (λ here. (here.0, here.2))
    (λ past. absurd (none (length xs) (length ys) k (slice_get_within xs k x e) long past.0))
    (slice_get_cases ys k).1
  where
    none : (n m k : ℕ) → k < n → m ≡ n → m ≤ k → ⊥
    none n m k lt e le = omega (arith, lt, e, le)

-- the one code that owns a word is its owner
owner_step : (codes : List Code) (i k : ℕ) (b : Bool) → (b ≡ true → 0 ≡ suc k) → owner_in codes i ≡ k → (if b then 0 else suc (owner_in codes i)) ≡ suc k
owner_step codes i k true first rest = first refl
owner_step codes i k false first rest = ap suc rest

owner_is : (codes : List Code) (i k : ℕ) (code : Code) → slice_get codes k ≡ Some code → owns code i ≡ true → ((j : ℕ) (c : Code) → slice_get codes j ≡ Some c → owns c i ≡ true → j ≡ k) → owner_in codes i ≡ k
owner_is [] i k code e own only = absurd (none_some e)
owner_is (c ∷ codes) i zero code e own only = ap (λ b. if b then 0 else suc (owner_in codes i)) (ap (λ d. owns d i) (some_same e) ∙ own)
owner_is (c ∷ codes) i (suc k) code e own only =
    owner_step codes i k (owns c i) (λ t. only 0 c refl t) (owner_is codes i k code e own (λ j d f o. let more = only (suc j) d f o in omega (arith, more)))

-- the words of sinks at numbers of a list
record HasNumber (net : Net) (watch : List ℕ) (part : CutPart) (i : ℕ) : Type 0 where
  number : ℕ
  sink : Sink
  here : Contains part.sinks number
  there : slice_get (sinks net watch) number ≡ Some sink
  has : HasWord net sink i

has_number : (net : Net) (watch : List ℕ) (part : CutPart) (i : ℕ) → HasWordAmong net (sinks_of_part net watch part) i → HasNumber net watch part i
has_number net watch part i h =
    let f = from_filter_map (slice_get (sinks net watch)) part.sinks h.sink h.there in
    record { number = f.0; sink = h.sink; here = f.1; there = f.2; has = h.has }

module _ (codes : List Code) (cut : AreOfOneCut codes) where
  abbrev TheNet : Net
  TheNet = cut.ordered.net

  pub has_owner : (i : ℕ) → i < state_words TheNet → (k : ℕ) × (code : Code) × (slice_get codes k ≡ Some code) × (owns code i ≡ true)
  has_owner i lt =
      let h = each_word TheNet cut.net cut.watch i lt in
      let at = item_at (sinks TheNet cut.watch) h.0 h.1 in
      let once = cut.split.once at.0 (slice_get_within (sinks TheNet cut.watch) at.0 h.0 at.1) in
      let code = beside cut.parts codes once.number once.part cut.codes_of.counted once.there in
      let it = cut.codes_of.each once.number once.part code.0 once.there code.1 in
      let own : owns code.0 i ≡ true = (it.owned i).1 (record { sink = h.0; there = to_filter_map (slice_get (sinks TheNet cut.watch)) once.part.sinks at.0 h.0 once.here at.1; has = h.2 }) in
      (once.number, code.0, code.1, own)

  number_of : (i k : ℕ) (code : Code) → slice_get codes k ≡ Some code → owns code i ≡ true → (part : CutPart) × (slice_get cut.parts k ≡ Some part) × HasNumber TheNet cut.watch part i
  number_of i k code e own =
      let part = beside codes cut.parts k code (sym cut.codes_of.counted) e in
      let it = cut.codes_of.each k part.0 code part.1 e in
      (part.0, part.1, has_number TheNet cut.watch part.0 i ((it.owned i).0 own))

  pub one_owner : (i j k : ℕ) (c d : Code) → slice_get codes j ≡ Some c → slice_get codes k ≡ Some d → owns c i ≡ true → owns d i ≡ true → j ≡ k
  one_owner i j k c d e f own other =
      let a = number_of i j c e own in
      let b = number_of i k d f other in
      let same = one_place TheNet cut.watch a.2.number b.2.number i a.2.sink b.2.sink a.2.there b.2.there a.2.has b.2.has in
      let once = cut.split.once a.2.number (slice_get_within (sinks TheNet cut.watch) a.2.number a.2.sink a.2.there) in
      once.alone j a.0 a.1 a.2.here ∙ sym (once.alone k b.0 b.1 (subst (Contains b.0.sinks) (sym same) b.2.here))

  pub owner_of : (i k : ℕ) (code : Code) → slice_get codes k ≡ Some code → owns code i ≡ true → owner_in codes i ≡ k
  owner_of i k code e own = owner_is codes i k code e own (λ j c f o. one_owner i j k c code f e o own)

  pub owner_below : (i : ℕ) → i < state_words TheNet → owner_in codes i < length codes
  owner_below i lt =
      let h = has_owner i lt in
      subst (λ n. n < length codes) (sym (owner_of i h.0 h.1 h.2 h.3)) (slice_get_within codes h.0 h.1 h.2)

  pub owner_of_sink : (i k : ℕ) (part : CutPart) → slice_get cut.parts k ≡ Some part → HasWordAmong TheNet (sinks_of_part TheNet cut.watch part) i → owner_in codes i ≡ k
  owner_of_sink i k part e has =
      let code = beside cut.parts codes k part cut.codes_of.counted e in
      owner_of i k code.0 code.1 (((cut.codes_of.each k part code.0 e code.1).owned i).1 has)

  -- a publication of a code
  pub record IsOwn (k : ℕ) (p : Publication) : Type 0 where
    pub there : p.word < state_words TheNet
    pub own : owner_in codes p.word ≡ k
    pub plain : p.value < 2 ^ 64

  told : (k : ℕ) (part : CutPart) → slice_get cut.parts k ≡ Some part → (st : NetState) (instant : Instant) → Each (IsOwn k) (sinks_told TheNet st instant (sinks_of_part TheNet cut.watch part))
  told k part e st instant = each_flat (IsOwn k) (sink_told TheNet st instant) (sinks_of_part TheNet cut.watch part)
      (λ n s at j p f.
      let h = told_own TheNet st instant s j p f in
      record {
        there = word_below TheNet s p.word h.has;
        own = owner_of_sink p.word k part e (record { sink = s; there = among (sinks_of_part TheNet cut.watch part) n s at; has = h.has });
        plain = h.plain;
      })

  pub publications : (k : ℕ) (code : Code) → slice_get codes k ≡ Some code → (words : List ℕ) (inputs : List Value) (rho : Valuation) → IsCycle TheNet words inputs rho → Each (IsOwn k) (published_by code words inputs)
  publications k code e words inputs rho cycle =
      let part = beside codes cut.parts k code (sym cut.codes_of.counted) e in
      let it = cut.codes_of.each k part.0 code part.1 e in
      let st = state_of TheNet words in
      let instant = instant_of TheNet st rho in
      subst (Each (IsOwn k)) (sym (it.publications words inputs rho cycle))
      (each_changed (IsOwn k) (register_words TheNet) words (sinks_told TheNet st instant (sinks_of_part TheNet cut.watch part.0)) (told k part.0 part.1 st instant))
