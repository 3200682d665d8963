-- From line to line: what is known before and after a setting.
use Rattle.std.proofs.Common.{◌≡◌, ◌≢◌, ℕ, zero, suc, ◌<◌, ◌≤◌, List, [], ◌∷◌, ◌++◌, length, take, get_or, replicate, Some, Option, refl, sym, ap, ◌∙◌, subst, arith, ⊎_elim}
use Rattle.std.specs.Prelude.{None, slice_get, slice_set, Contains}
use Rattle.std.specs.List.{AllZip}
use Rattle.std.proofs.lemmas.Bool.{cases_lt, cases_eq}
use Rattle.std.proofs.lemmas.List.{take_at, take-append-le, length-set, length-replicate, length_push, append_assoc, append-nil, get_or_default}
use Rattle.std.proofs.lemmas.List.Elements.{All-nil, All-push, Contains-push, Contains-push_cases, Contains-append_left}
use Rattle.std.proofs.lemmas.List.Quantifiers.{all_pairs_push}
use Rattle.std.proofs.lemmas.Option.{slice_get_within}
use Rattle.ground_net.specs.declared.net.Ports.{Ports}
use Rattle.stimulus.specs.declared.fault.StimFault.{StimFault}
use Rattle.stimulus.specs.declared.stimulus.Setting.{Setting}
use Rattle.stimulus.specs.Words.{Word, is_told}
use Rattle.stimulus.specs.Forms.{Said, Says}
use Rattle.stimulus.specs.Faults.{IsLineFault}
use Rattle.stimulus.specs.Stimuli.{IsOf, Sets, StandsBefore}
use Rattle.stimulus.specs.Reading.{line_at, lines_after, told_at, Knows, IsSound, HaveNoFault, IsFirstOfLine, IsFirstOfLines, IsReadTo, AreRead}
use Rattle.stimulus.proofs.Lists.{zip_push, at_push, at_front, at_behind}
use Rattle.stimulus.proofs.Walking.{told_none}
use Rattle.stimulus.proofs.Judged.{IsOrdered, no_fault}

nothing_set : (n input cycle : ℕ) → slice_get (replicate n None) input ≡ Some (Some cycle) → ⊥
nothing_set zero input cycle e = cc
nothing_set (suc n) zero cycle e = cc
nothing_set (suc n) (suc input) cycle e = nothing_set n input cycle e

pub knows_start : (ports : Ports) (cycles n : ℕ) → n ≡ length ports.inputs → Knows ports cycles 0 (replicate n None) []
knows_start ports cycles n e = record {
  as_many = length-replicate n None ∙ e;
  below = All-nil (λ (s : Setting). s.cycle < cycles);
  of_inputs = All-nil (IsOf ports);
  pairs = λ i j d lt within. absurd (omega (arith, within));
  latest = λ lt. absurd (omega (arith, lt));
  set = λ input cycle h. absurd (nothing_set n input cycle h);
  noted = λ s h. absurd (omega (arith, h.1));
}

set_same : {A : Type 0} (xs : List A) (i : ℕ) (x : A) → i < length xs → slice_get (slice_set xs i x) i ≡ Some x
set_same [] i x lt = absurd (omega (arith, lt))
set_same (y ∷ ys) zero x lt = refl
set_same (y ∷ ys) (suc i) x lt = set_same ys i x (omega (arith, lt))

set_other : {A : Type 0} (xs : List A) (i j : ℕ) (x : A) → j ≢ i → slice_get (slice_set xs i x) j ≡ slice_get xs j
set_other [] i j x ne = refl
set_other (y ∷ ys) zero zero x ne = absurd (ne refl)
set_other (y ∷ ys) zero (suc j) x ne = refl
set_other (y ∷ ys) (suc i) zero x ne = refl
set_other (y ∷ ys) (suc i) (suc j) x ne = set_other ys i j x (λ e. ne (ap suc e))

module _ (ports : Ports) (cycles last : ℕ) (set_in : List (Option ℕ)) (settings : List Setting) (said : Said) (setting : Setting) (knows : Knows ports cycles last set_in settings) (sound : IsSound ports cycles last set_in said setting) where
  pub input_within : setting.input < length set_in
  input_within = let h = slice_get_within ports.inputs setting.input sound.of_input.leaf sound.of_input.input in omega (arith, h, knows.as_many)

  -- the settings before
  before : (t : Setting) → Contains settings t → StandsBefore t setting
  before t h =
      let note = knows.noted t h in
      record {
        in_order = omega (arith, note.2, note.3, sound.in_order);
        once = λ cycle input.
            let now : note.0 ≡ setting.cycle = omega (arith, cycle, note.2, note.3, sound.in_order) in
            sound.fresh (ap (slice_get set_in) (sym input) ∙ note.1 ∙ ap (λ n. Some (Some n)) now);
      }

  set : (input cycle : ℕ) → slice_get (slice_set set_in setting.input (Some setting.cycle)) input ≡ Some (Some cycle)
      → (s : Setting) × Contains (settings ++ setting ∷ []) s × (s.cycle ≡ cycle) × (s.input ≡ input)
  set input cycle h = ⊎_elim here there' (cases_eq input setting.input)
    where
      here : input ≡ setting.input → (s : Setting) × Contains (settings ++ setting ∷ []) s × (s.cycle ≡ cycle) × (s.input ≡ input)
      here e =
          let both : Some (Some setting.cycle) ≡ Some (Some cycle) = sym (set_same set_in setting.input (Some setting.cycle) input_within) ∙ ap (slice_get (slice_set set_in setting.input (Some setting.cycle))) (sym e) ∙ h in
          (setting, Contains-push settings setting, cc, sym e)

      there' : (input ≡ setting.input → ⊥) → (s : Setting) × Contains (settings ++ setting ∷ []) s × (s.cycle ≡ cycle) × (s.input ≡ input)
      there' ne =
          let old = knows.set input cycle (sym (set_other set_in setting.input input (Some setting.cycle) ne) ∙ h) in
          (old.0, Contains-append_left settings (setting ∷ []) old.0 old.1, old.2, old.3)

  noted : (t : Setting) → Contains (settings ++ setting ∷ []) t → (c : ℕ) × (slice_get (slice_set set_in setting.input (Some setting.cycle)) t.input ≡ Some (Some c)) × (t.cycle ≤ c) × (c ≤ setting.cycle)
  noted t h = ⊎_elim old (λ e. subst (λ (s : Setting). (c : ℕ) × (slice_get (slice_set set_in setting.input (Some setting.cycle)) s.input ≡ Some (Some c)) × (s.cycle ≤ c) × (c ≤ setting.cycle)) e (setting.cycle, set_same set_in setting.input (Some setting.cycle) input_within, omega arith, omega arith)) (Contains-push_cases settings setting t h)
    where
      old : Contains settings t → (c : ℕ) × (slice_get (slice_set set_in setting.input (Some setting.cycle)) t.input ≡ Some (Some c)) × (t.cycle ≤ c) × (c ≤ setting.cycle)
      old h =
          let note = knows.noted t h in
          ⊎_elim (λ e. (setting.cycle, ap (slice_get (slice_set set_in setting.input (Some setting.cycle))) e ∙ set_same set_in setting.input (Some setting.cycle) input_within, omega (arith, note.2, note.3, sound.in_order), omega arith))
          (λ ne. (note.0, set_other set_in setting.input t.input (Some setting.cycle) ne ∙ note.1, note.2, omega (arith, note.3, sound.in_order)))
          (cases_eq t.input setting.input)

  pub knows_more : Knows ports cycles setting.cycle (slice_set set_in setting.input (Some setting.cycle)) (settings ++ setting ∷ [])
  knows_more = record {
    as_many = length-set set_in setting.input (Some setting.cycle) ∙ knows.as_many;
    below = All-push (λ (s : Setting). s.cycle < cycles) settings setting knows.below sound.below;
    of_inputs = All-push (IsOf ports) settings setting knows.of_inputs sound.of_input;
    pairs = all_pairs_push StandsBefore settings setting knows.pairs (λ k d lt. before (get_or settings k d) (k, lt, get_or_default settings k (get_or settings k d) d lt));
    latest = λ lt. (setting, ap (slice_get (settings ++ setting ∷ [])) (let l = length_push settings setting in omega (arith, l)) ∙ at_push settings setting, refl);
    set = set;
    noted = noted;
  }

  pub sets_of : (line : List Word) → Says line said → Sets ports line setting
  sets_of line says = record { said = said; says = says; cycle = sound.cycle; input = sound.input; of_input = sound.of_input; value = sound.value }

take_front : {A : Type 0} (k : ℕ) (xs ys : List A) → k ≤ length xs → take k (xs ++ ys) ≡ take k xs
take_front k xs ys le = take-append-le k xs ys le

module _ (text : List ℕ) (ports : Ports) (cycles : ℕ) (lines : List (List Word)) where
  -- before the first line
  pub read_start : (at n : ℕ) → lines ≡ lines_after text at → line_at text at ≡ [] → n ≡ length ports.inputs → IsReadTo text ports cycles lines at 0 (replicate n None) []
  read_start at n e none many = record {
    done = [];
    split = e ∙ sym (told_none text at (ap is_told none));
    no_fault = λ k line h. absurd (nothing k line h);
    sets = tt;
    knows = knows_start ports cycles n many;
  }
    where
      nothing : (k : ℕ) (line : List Word) → slice_get [] k ≡ Some line → ⊥
      nothing k line h = cc

  module _ (at last : ℕ) (set_in : List (Option ℕ)) (settings : List Setting) (read : IsReadTo text ports cycles lines at last set_in settings) where
    -- the next line has a fault
    pub read_fault : (line : List Word) (rest : List (List Word)) (fault : StimFault) → told_at text at ≡ line ∷ rest → IsFirstOfLine text ports cycles read.done line fault → IsFirstOfLines text ports cycles lines fault
    read_fault line rest fault e is =
        let all : lines ≡ read.done ++ line ∷ rest = read.split ∙ ap (λ ls. read.done ++ ls) e in
        let front : read.done ≡ take (length read.done) lines = sym (ap (take (length read.done)) all ∙ take_at read.done (line ∷ rest) (length read.done) refl) in
        record {
          number = length read.done;
          line = line;
          there' = ap (λ ls. slice_get ls (length read.done)) all ∙ at_behind read.done rest line;
          before = subst (HaveNoFault text ports cycles) front read.no_fault;
          is = subst (λ ls. IsFirstOfLine text ports cycles ls line fault) front is;
        }

    -- it has none
    pub read_more : (line : List Word) (rest : List (List Word)) (next : ℕ) (said : Said) (setting : Setting) → told_at text at ≡ line ∷ rest → rest ≡ lines_after text next → line_at text next ≡ [] → Says line said → IsOrdered text said
        → IsSound ports cycles last set_in said setting → IsReadTo text ports cycles lines next setting.cycle (slice_set set_in setting.input (Some setting.cycle)) (settings ++ setting ∷ [])
    read_more line rest next said setting e after none says order sound = record {
      done = read.done ++ line ∷ [];
      split = read.split ∙ ap (λ ls. read.done ++ ls) (e ∙ ap (λ ls. line ∷ ls) (after ∙ sym (told_none text next (ap is_told none)))) ∙ sym (append_assoc read.done (line ∷ []) (told_at text next));
      no_fault = λ k other h. ⊎_elim (λ lt. old k other lt h) (λ ge. new k other ge h) (cases_lt k (length read.done));
      sets = zip_push (Sets ports) read.done settings line setting read.sets (sets_of ports cycles last set_in settings said setting read.knows sound line says);
      knows = knows_more ports cycles last set_in settings said setting read.knows sound;
    }
      where
        old : (k : ℕ) (other : List Word) → k < length read.done → slice_get (read.done ++ line ∷ []) k ≡ Some other
            → (said : Said) × Says other said × ((fault : StimFault) → ¬ (IsLineFault text ports cycles (take k (read.done ++ line ∷ [])) said fault))
        old k other lt h =
            let its = read.no_fault k other (sym (at_front read.done (line ∷ []) k lt) ∙ h) in
            (its.0, its.1, λ fault f. its.2 fault (subst (λ ls. IsLineFault text ports cycles ls its.0 fault) (take_front k read.done (line ∷ []) (omega (arith, lt))) f))

        new : (k : ℕ) (other : List Word) → length read.done ≤ k → slice_get (read.done ++ line ∷ []) k ≡ Some other
            → (said : Said) × Says other said × ((fault : StimFault) → ¬ (IsLineFault text ports cycles (take k (read.done ++ line ∷ [])) said fault))
        new k other ge h =
            let within = slice_get_within (read.done ++ line ∷ []) k other h in
            let here : k ≡ length read.done = omega (arith, within, ge, length_push read.done line) in
            let both : Some line ≡ Some other = sym (at_push read.done line) ∙ ap (slice_get (read.done ++ line ∷ [])) (sym here) ∙ h in
            let same : line ≡ other = cc in (
              said,
              subst (λ l. Says l said) same says,
              λ fault f. no_fault text ports cycles last set_in settings read.done said order read.knows read.sets setting sound fault
                  (subst (λ ls. IsLineFault text ports cycles ls said fault) (ap (λ n. take n (read.done ++ line ∷ [])) here ∙ take_at read.done (line ∷ []) (length read.done) refl) f),
            )

    -- all lines are read
    pub read_all : told_at text at ≡ [] → AreRead text ports cycles lines settings
    read_all none =
        let all : read.done ≡ lines = sym (read.split ∙ ap (λ ls. read.done ++ ls) none ∙ append-nil read.done) in
        record {
          no_fault = subst (HaveNoFault text ports cycles) all read.no_fault;
          sets = subst (λ ls. AllZip (Sets ports) ls settings) all read.sets;
          below = read.knows.below;
          of_inputs = read.knows.of_inputs;
          pairs = read.knows.pairs;
        }
