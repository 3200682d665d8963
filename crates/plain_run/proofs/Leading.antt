-- Runs that go on from a state, and from one that is the same as far as the design goes.
use Rattle.std.proofs.Common.{◌≡◌, ℕ, ◌+◌, ◌<◌, ◌≤◌, List, [], ◌∷◌, ◌++◌, map, length, take, get_or, slice_get, Option, Some, None, refl, sym, ap, ap₂, ◌∙◌, subst, append-nil, append_assoc}
use Rattle.std.specs.List.{filter_map, cons_option}
use Rattle.std.proofs.lemmas.List.{map-append, take_more}
use Rattle.std.proofs.lemmas.List.Elements.{filter_map-append}
use Rattle.bit_words.specs.declared.value.Value.{Value}
use Rattle.fir_meaning.specs.Components.{Design, Leaf, HasBundles}
use Rattle.fir_meaning.specs.Values.{Valuation}
use Rattle.fir_meaning.specs.States.{State, SameState, Inputs, Settled, next, first_state}
use Rattle.settling_laws.specs.Runs.{Watched, value_of, row_of, Runs, ended, cycle}
use Rattle.settling_laws.proofs.Sames.{settled_alike}
use Rattle.settling_laws.proofs.Nexts.{next_alike}
use Rattle.plain_values.specs.declared.site.Site.{Site}
use Rattle.plain_values.specs.Sites.{valuation_of}
use Rattle.plain_cycle.proofs.Lists.{take_past}
use Rattle.plain_cycle.specs.declared.run.Held.{Held}
use Rattle.plain_cycle.specs.Given.{given_by}
use Rattle.plain_cycle.specs.Runs.{state_of, contents_on, captured_on}
use Rattle.plain_run.proofs.Ports.{taken_more}

-- nothing is held of any component
none_held : (sites : List Site) → state_of sites (record { registers = []; contents = []; captured = [] }) ≡ first_state
none_held [] = refl
none_held (site ∷ sites) = refl

pub held_none : (sites : List Site) (held : Held) → held.registers ≡ [] → held.contents ≡ [] → held.captured ≡ [] → state_of sites held ≡ first_state
held_none sites held a b c = (λ i. record { registers = valuation_of sites (a i); contents = contents_on sites (b i); captured = captured_on sites (c i) }) ∙ none_held sites

pub run_of : (design : Design) (keys own : List Leaf) (some all : List Watched) (numbers : List ℕ) (rows inputs outputs : List (List Value)) → keys ≡ own → some ≡ all → rows ≡ inputs
    → Runs design (filter_map (slice_get some) numbers) first_state (map (given_by keys) rows) outputs → Runs design (filter_map (slice_get all) numbers) first_state (map (given_by own) inputs) outputs
run_of design keys own some all numbers rows inputs outputs a b c h =
    subst (λ ls. Runs design (filter_map (slice_get ls) numbers) first_state (map (given_by own) inputs) outputs) b
    (subst (λ g. Runs design (filter_map (slice_get some) numbers) first_state g outputs) (ap₂ (λ ks rs. map (given_by ks) rs) a c) h)

-- Watched leaves, one after another

module _ (leaves : List Watched) (rho : Valuation) (numbers : List ℕ) (k n other : ℕ) (below : k < length numbers) (is : n ≡ get_or numbers k other) where
  one_more : (o : Option Watched) → slice_get leaves n ≡ o → row_of (filter_map (slice_get leaves) (take (k + 1) numbers)) rho ≡ row_of (filter_map (slice_get leaves) (take k numbers)) rho ++ row_of (cons_option o []) rho
  one_more o e =
      ap (λ l. row_of (filter_map (slice_get leaves) l) rho) (take_more numbers k other below ∙ ap (λ x. take k numbers ++ x ∷ []) (sym is))
      ∙ (ap (λ l. row_of l rho) (filter_map-append (slice_get leaves) (take k numbers) (n ∷ []) ∙ ap (λ p. filter_map (slice_get leaves) (take k numbers) ++ cons_option p []) e)
      ∙ map-append (value_of rho) (filter_map (slice_get leaves) (take k numbers)) (cons_option o []))

  pub shown_more : (w : Watched) (v : Value) (before after : List Value) → slice_get leaves n ≡ Some w → v ≡ value_of rho w → after ≡ before ++ v ∷ [] → before ≡ row_of (filter_map (slice_get leaves) (take k numbers)) rho
      → after ≡ row_of (filter_map (slice_get leaves) (take (k + 1) numbers)) rho
  shown_more w v before after e one more old = more ∙ (ap₂ (λ l x. l ++ x ∷ []) old one ∙ sym (one_more (Some w) e))

  pub shown_less : (before : List Value) → slice_get leaves n ≡ None → before ≡ row_of (filter_map (slice_get leaves) (take k numbers)) rho → before ≡ row_of (filter_map (slice_get leaves) (take (k + 1) numbers)) rho
  shown_less before e old = old ∙ (sym (append-nil (row_of (filter_map (slice_get leaves) (take k numbers)) rho)) ∙ sym (one_more None e))

module _ (design : Design) (watched : List Watched) where
  -- What follows from a state follows from one that is the same.
  pub runs_alike : HasBundles design → (s t : State) → SameState design s t → (given : List Inputs) → {rows : List (List Value)} → Runs design watched s given rows → Runs design watched t given rows
  runs_alike has s t same [] ended = ended
  runs_alike has s t same (g ∷ given) (cycle {rows = more} rho settled rest) =
      cycle rho (settled_alike design has t s same g rho settled) (runs_alike has (next design s rho) (next design t rho) (next_alike design has s t same rho) given rest)

  -- Cycles lead from a state to another: whatever follows there follows their rows from here.
  abbrev pub Leads : State → List Inputs → List (List Value) → State → Type 0
  Leads s given rows t = (later : List Inputs) (more : List (List Value)) → Runs design watched t later more → Runs design watched s (given ++ later) (rows ++ more)

  -- One cycle more.
  pub leads_more : HasBundles design → (s t after : State) (given : List Inputs) (rows : List (List Value)) (g : Inputs) (rho : Valuation) → Settled design t g rho → SameState design after (next design t rho)
      → Leads s given rows t → Leads s (given ++ g ∷ []) (rows ++ row_of watched rho ∷ []) after
  leads_more has s t after given rows g rho settled same leads = λ later more run.
      subst (λ l. Runs design watched s l ((rows ++ row_of watched rho ∷ []) ++ more)) (sym (append_assoc given (g ∷ []) later))
      (subst (Runs design watched s (given ++ (g ∷ later))) (sym (append_assoc rows (row_of watched rho ∷ []) more))
      (leads (g ∷ later) (row_of watched rho ∷ more) (cycle rho settled (runs_alike has after (next design t rho) same later run))))

  -- Of rows of inputs so many have been run through.
  pub none_run : (given : List Value → Inputs) (inputs rows : List (List Value)) (s : State) → s ≡ first_state → rows ≡ [] → Leads first_state (map given (take 0 inputs)) rows s
  none_run given [] rows s e none = λ later more run. subst (λ o. Runs design watched first_state later (o ++ more)) (sym none) (subst (λ t. Runs design watched t later more) e run)
  none_run given (row ∷ inputs) rows s e none = λ later more run. subst (λ o. Runs design watched first_state later (o ++ more)) (sym none) (subst (λ t. Runs design watched t later more) e run)

  module _ (given : List Value → Inputs) (inputs : List (List Value)) where
    pub run_more : HasBundles design → (k : ℕ) (row : List Value) (t after : State) (rows rows' : List (List Value)) (output : List Value) (rho : Valuation) → k < length inputs → row ≡ get_or inputs k row
        → Settled design t (given row) rho → SameState design after (next design t rho) → output ≡ row_of watched rho → rows' ≡ rows ++ output ∷ []
        → Leads first_state (map given (take k inputs)) rows t → Leads first_state (map given (take (k + 1) inputs)) rows' after
    run_more has k row t after rows rows' output rho below is settled same shown more leads =
        subst (λ l. Leads first_state l rows' after) (sym (ap (map given) (taken_more inputs k row below is) ∙ map-append given (take k inputs) (row ∷ [])))
        (subst (λ l. Leads first_state (map given (take k inputs) ++ given row ∷ []) l after) (sym (more ∙ ap (λ o. rows ++ o ∷ []) shown))
        (leads_more has first_state t after (map given (take k inputs)) rows (given row) rho settled same leads))

    pub all_run : (k : ℕ) (t : State) (rows : List (List Value)) → length inputs ≤ k → Leads first_state (map given (take k inputs)) rows t → Runs design watched first_state (map given inputs) rows
    all_run k t rows past leads =
        subst (λ l. Runs design watched first_state l rows) (append-nil (map given (take k inputs)) ∙ ap (map given) (take_past inputs k past))
        (subst (Runs design watched first_state (map given (take k inputs) ++ [])) (append-nil rows) (leads [] [] ended))
