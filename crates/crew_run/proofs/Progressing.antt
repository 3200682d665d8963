-- The texts of a run's first cycles, and its whole text.
use Rattle.std.proofs.Common.{◌≡◌, ◌⊎◌, ⊎_elim, ℕ, ◌+◌, ◌-◌, ◌≤◌, Bool, true, false, List, [], ◌∷◌, ◌++◌, length, None, refl, sym, subst, ap, ap₂, ◌∙◌, arith, append_assoc, append-nil, if◌then◌else◌, ◌||◌}
use Rattle.std.specs.List.{list_any}
use Rattle.std.proofs.lemmas.List.{length-append}
use Rattle.bit_words.specs.declared.value.Value.{Value}
use Rattle.ground_net.specs.declared.net.Net.{Net}
use Rattle.ground_net.specs.Reads.{IsOrder}
use Rattle.ground_net.specs.Cycles.{NetState, Inputs}
use Rattle.ground_net.specs.Nets.{IsNet}
use Rattle.net_laws.specs.Runs.{Run}
use Rattle.net_laws.specs.Runs as runs
use Rattle.row_texts.specs.declared.telling.Spot.{Spot}
use Rattle.row_texts.specs.Tellings.{Telling, last_from, told_of, rows_text, text_of_told, run_text}
use Rattle.row_texts.proofs.Texts.{last_append, text_append, told_append, any_append}
use Rattle.circuit_run.specs.NetRuns.{inputs_from}
use Rattle.circuit_run.proofs.NetRuns.{run_on}
use Rattle.crew_run.specs.Epochs.{Advances, stays}
use Rattle.crew_run.specs.RunTexts.{IsRunText}
use Rattle.crew_run.specs.Progress.{Progress, IsSpot}
use Rattle.crew_run.proofs.Going.{inputs_behind, go_join, go_run}

-- a run that no row ends
pub none_ends : (ends : List Value → Bool) → ((row : List Value) → ends row ≡ false) → (rows : List (List Value)) → list_any ends rows ≡ false
none_ends ends never [] = refl
none_ends ends never (row ∷ rows) = ap (λ b. b || list_any ends rows) (never row) ∙ none_ends ends never rows

-- a run of no cycle
no_run : (net : Net) (watched : List ℕ) (u : NetState) (rows : List (List Value)) → Run net watched u [] rows → rows ≡ []
no_run net watched u [] runs.ended = refl
no_run net watched u (row ∷ rows) run = elim run [ ]

module _ (net : Net) (watched : List ℕ) (s : NetState) (given : ℕ → Inputs) (t : Telling) (first : ℕ) where
  abbrev Text : List (List Value) → List ℕ
  Text told = rows_text t first None told

  abbrev pub none_told : Progress net watched s given t first 0 [] s
  none_told = record { rows = []; advances = stays; are = refl }

  pub first_spot : (spot : Spot) (ended : Bool) → spot.cycle ≡ first → spot.before ≡ None → spot.byte ≡ None → ended ≡ false → IsSpot t first [] [] spot ended
  first_spot spot ended cycle before byte none = let z : first ≡ first + 0 = omega arith in record { cycle = cycle ∙ z; before = before; byte = byte; at_end = none }

  -- an epoch more, where no row ended the run before
  module _ (n count : ℕ) (lines bytes : List ℕ) (u v : NetState) (p : Progress net watched s given t first n lines u) (spot : Spot) (was : Bool) (stands : IsSpot t first p.rows lines spot was) (on : was ≡ false)
      (more : List (List Value)) (further : Advances net watched u (inputs_from given n count) more v) (text : bytes ≡ rows_text t spot.cycle spot.before (told_of t.ends more)) where
    pub none_before : list_any t.ends p.rows ≡ false
    none_before = sym stands.at_end ∙ on

    pub told_both : told_of t.ends (p.rows ++ more) ≡ told_of t.ends p.rows ++ told_of t.ends more
    told_both = told_append t.ends p.rows more ∙ ap (λ b. told_of t.ends p.rows ++ (if b then [] else told_of t.ends more)) none_before

    pub text_both : lines ++ bytes ≡ Text (told_of t.ends (p.rows ++ more))
    text_both =
        let first_is = told_of t.ends p.rows in
        ap₂ (λ a b. a ++ b) p.are (text ∙ ap₂ (λ c o. rows_text t c o (told_of t.ends more)) stands.cycle stands.before)
        ∙ (sym (text_append t first None first_is (told_of t.ends more)) ∙ ap Text (sym told_both))

    abbrev pub told_on : Progress net watched s given t first (n + count) (lines ++ bytes) v
    told_on = record {
      rows = p.rows ++ more;
      advances = subst (λ i. Advances net watched s i (p.rows ++ more) v) (inputs_behind given n count) (go_join net watched s u v (inputs_from given 0 n) (inputs_from given n count) p.advances further);
      are = text_both;
    }

    pub spot_on : (behind : Spot) (ended : Bool) → behind.cycle ≡ spot.cycle + length (told_of t.ends more) → behind.before ≡ last_from spot.before (told_of t.ends more) → behind.byte ≡ last_from spot.byte bytes → ended ≡ list_any t.ends more
        → IsSpot t first (p.rows ++ more) (lines ++ bytes) behind ended
    spot_on behind ended cycle before byte any =
        let a = told_of t.ends p.rows in
        let b = told_of t.ends more in
        let long : first + length a + length b ≡ first + (length a + length b) = omega arith in
        record {
          cycle = cycle ∙ (ap (λ k. k + length b) stands.cycle ∙ (long ∙ ap (λ k. first + k) (sym (length-append a b) ∙ ap length (sym told_both))));
          before = before ∙ (ap (λ o. last_from o b) stands.before ∙ (sym (last_append None a b) ∙ ap (last_from None) (sym told_both)));
          byte = byte ∙ (ap (λ o. last_from o bytes) stands.byte ∙ sym (last_append None lines bytes));
          at_end = any ∙ (sym (ap (λ b. b || list_any t.ends more) none_before) ∙ sym (any_append t.ends p.rows more));
        }

  module _ (sequence : List ℕ) (well : IsNet net) (order : IsOrder net sequence) (n cycles : ℕ) (within : n ≤ cycles) (lines : List ℕ) (u : NetState) (p : Progress net watched s given t first n lines u) where
    abbrev rest : (rows : List (List Value)) × Run net watched u (inputs_from given n (cycles - n)) rows
    rest = run_on net watched sequence well order u (inputs_from given n (cycles - n))

    abbrev all : List (List Value)
    all = p.rows ++ rest.0

    abbrev A : List (List Value)
    A = told_of t.ends p.rows

    abbrev X : List (List Value)
    X = if list_any t.ends p.rows then [] else told_of t.ends rest.0

    run_all : Run net watched s (inputs_from given 0 cycles) all
    run_all =
        let e : n + (cycles - n) ≡ cycles = omega (arith, within) in
        subst (λ i. Run net watched s i all) (inputs_behind given n (cycles - n) ∙ ap (inputs_from given 0) e) (go_run net watched s u (inputs_from given 0 n) (inputs_from given n (cycles - n)) p.advances rest.1)

    -- The texts of the first cycles are the front of a whole text.
    pub begun_text : (bytes : List ℕ) × IsRunText net watched s (inputs_from given 0 cycles) t first bytes × (more : List ℕ) × (bytes ≡ (t.head ++ lines) ++ more)
    begun_text =
        let behind = rows_text t (first + length A) (last_from None A) X in
        let foot = t.foot (first + length (A ++ X)) (last_from None (A ++ X)) (last_from None (Text (A ++ X))) in (
          run_text t first all,
          record { rows = all; run = run_all; is = refl },
          behind ++ foot,
          ap (text_of_told t first) (told_append t.ends p.rows rest.0)
              ∙ (ap (λ l. t.head ++ (l ++ foot)) (text_append t first None A X ∙ ap (λ l. l ++ behind) (sym p.are))
              ∙ (ap (λ l. t.head ++ l) (append_assoc lines behind foot) ∙ sym (append_assoc t.head lines (behind ++ foot)))),
        )

    -- All of them, with what stands behind.
    pub whole_text : (spot : Spot) (ended : Bool) → IsSpot t first p.rows lines spot ended → (n ≡ cycles) ⊎ (ended ≡ true)
        → IsRunText net watched s (inputs_from given 0 cycles) t first (t.head ++ (lines ++ t.foot spot.cycle spot.before spot.byte))
    whole_text spot ended stands at_end =
        let no_rows : n ≡ cycles → rest.0 ≡ [] = λ e. let k : cycles - n ≡ 0 = omega (arith, e) in no_run net watched u rest.0 (subst (λ m. Run net watched u (inputs_from given n m) rest.0) k rest.1) in
        let no_more : X ≡ [] = ⊎_elim (λ e. ap (λ rows. if list_any t.ends p.rows then [] else told_of t.ends rows) (no_rows e) ∙ either (list_any t.ends p.rows)) (λ e. ap (λ b. if b then [] else told_of t.ends rest.0) (sym stands.at_end ∙ e)) at_end in
        let told : told_of t.ends all ≡ A = told_append t.ends p.rows rest.0 ∙ (ap (λ x. A ++ x) no_more ∙ append-nil A) in
        let foot_is : t.foot spot.cycle spot.before spot.byte ≡ t.foot (first + length A) (last_from None A) (last_from None (Text A)) =
        ap₂ (λ c o. t.foot c o spot.byte) stands.cycle stands.before ∙ ap (t.foot (first + length A) (last_from None A)) (stands.byte ∙ ap (last_from None) p.are) in
        record {
          rows = all;
          run = run_all;
          is = ap₂ (λ l f. t.head ++ (l ++ f)) p.are foot_is ∙ sym (ap (text_of_told t first) told);
        }
      where
        either : (b : Bool) → (if b then [] else told_of t.ends []) ≡ []
        either true = refl
        either false = refl
