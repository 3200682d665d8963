-- Runs of a net, piece by piece.
use Rattle.std.proofs.Common.{◌≡◌, ℕ, ◌+◌, ◌-◌, ◌≤◌, List, [], ◌∷◌, ◌++◌, map, length, refl, sym, ap, ap₂, ◌∙◌, subst, arith, append_assoc, append-nil}
use Rattle.std.specs.List.{flat_map, range_with_len, enumerate_from}
use Rattle.std.proofs.lemmas.Grind.{flat_map-append}
use Rattle.std.proofs.lemmas.List.{map-append, length-append}
use Rattle.bit_words.specs.declared.value.Value.{Value}
use Rattle.ground_net.specs.declared.net.Net.{Net}
use Rattle.ground_net.specs.declared.net.PortLeaf.{PortLeaf}
use Rattle.ground_net.specs.Reads.{IsOrder}
use Rattle.ground_net.specs.Watching.{watched}
use Rattle.ground_net.specs.Cycles.{NetState, Inputs, Valuation, Settled, instant_of, next, first_state}
use Rattle.ground_net.specs.Nets.{IsNet}
use Rattle.ground_net.proofs.Mentioning.{one_of_net}
use Rattle.net_laws.specs.Runs.{Run, ended, cycle}
use Rattle.net_run.specs.Seeing.{value_at}
use Rattle.stimulus.specs.declared.stimulus.Stimulus.{Stimulus}
use Rattle.trace_print.specs.Trace.{trace_line_of}
use Rattle.circuit_run.specs.NetRuns.{watch, given_in, inputs_from, given_from, lines_from, LeadsTo, AreLines}
use Rattle.circuit_run.proofs.Lists.{range_split, enumerate_split}

-- From each state there is a run.
pub run_on : (net : Net) (seen sequence : List ℕ) → IsNet net → IsOrder net sequence → (t : NetState) (given : List Inputs) → (rows : List (List Value)) × Run net seen t given rows
run_on net seen sequence well order t [] = ([], ended)
run_on net seen sequence well order t (g ∷ given) =
    let one = (one_of_net net sequence well order t g).one in
    let rest = run_on net seen sequence well order (next net t (instant_of net t one.0)) given in
    (map one.0 seen ∷ rest.0, cycle one.0 one.1 rest.1)

pub inputs_split : (given : ℕ → Inputs) (first n m : ℕ) → inputs_from given first (n + m) ≡ inputs_from given first n ++ inputs_from given (first + n) m
inputs_split given first n m = ap (map given) (range_split first n m) ∙ map-append given (range_with_len first n) (range_with_len (first + n) m)

given_split : (stimulus : Stimulus) (first n m : ℕ) → given_from stimulus first (n + m) ≡ given_from stimulus first n ++ given_from stimulus (first + n) m
given_split stimulus = inputs_split (given_in stimulus)

lines_split : (first : ℕ) (rows more : List (List Value)) → lines_from first (rows ++ more) ≡ lines_from first rows ++ lines_from (first + length rows) more
lines_split first rows more =
    ap (flat_map (λ x. trace_line_of x.0 x.1)) (enumerate_split first rows more)
    ∙ flat_map-append (λ x. trace_line_of x.0 x.1) (enumerate_from first rows) (enumerate_from (first + length rows) more)

map_map : {A B C : Type 0} (f : B → C) (g : A → B) (xs : List A) → map f (map g xs) ≡ map (λ x. f (g x)) xs
map_map f g [] = refl
map_map f g (x ∷ xs) = ap (λ l. f (g x) ∷ l) (map_map f g xs)

-- the values of the watched leaves
pub row_watched : (net : Net) (values seen : List Value) (ports leaves : List PortLeaf) (row : List Value) → ports ≡ watched net → leaves ≡ ports → seen ≡ values → row ≡ map (λ (p : PortLeaf). value_at seen p.leaf) leaves
    → row ≡ map (value_at values) (watch net)
row_watched net values seen ports leaves row watched_is ports_are seen_is row_is =
    row_is ∙ (ap₂ (λ vs ls. map (λ (p : PortLeaf). value_at vs p.leaf) ls) seen_is (ports_are ∙ watched_is) ∙ sym (map_map (value_at values) (λ (p : PortLeaf). p.leaf) (watched net)))

module _ (net : Net) (stimulus : Stimulus) where
  -- No cycle leads on yet.
  pub no_cycle : (P : NetState → Type 0) (s : NetState) (first : ℕ) → P s → LeadsTo net stimulus P s first 0 []
  no_cycle P s first k = record { state = s; rows = []; leads = λ later more r. r; counted = refl; kept = k; are = refl }

  -- One cycle.
  pub one_cycle : (P : NetState → Type 0) (s : NetState) (first : ℕ) (rho : Valuation) (row : List Value) (line : List ℕ) → Settled net s (given_in stimulus first) rho → row ≡ map rho (watch net) → line ≡ trace_line_of first row
      → P (next net s (instant_of net s rho)) → LeadsTo net stimulus P s first 1 line
  one_cycle P s first rho row line settled row_is line_is k = record {
    state = next net s (instant_of net s rho);
    rows = map rho (watch net) ∷ [];
    leads = λ later more r. cycle rho settled r;
    counted = refl;
    kept = k;
    are = line_is ∙ (ap (trace_line_of first) row_is ∙ sym (append-nil (trace_line_of first (map rho (watch net)))));
  }

  -- Cycles, and then others.
  pub join : (P Q : NetState → Type 0) (s : NetState) (first n m : ℕ) (lines more : List ℕ) → LeadsTo net stimulus P s first n lines
      → ((t : NetState) → P t → LeadsTo net stimulus Q t (first + n) m more) → LeadsTo net stimulus Q s first (n + m) (lines ++ more)
  join P Q s first n m lines more a f =
      let b = f a.state a.kept in
      record {
        state = b.state;
        rows = a.rows ++ b.rows;
        leads = λ later rest r.
            let run : Run net (watch net) s (given_from stimulus first n ++ (given_from stimulus (first + n) m ++ later)) (a.rows ++ (b.rows ++ rest)) = a.leads (given_from stimulus (first + n) m ++ later) (b.rows ++ rest) (b.leads later rest r) in
            let given_is : given_from stimulus first n ++ (given_from stimulus (first + n) m ++ later) ≡ given_from stimulus first (n + m) ++ later =
            sym (append_assoc (given_from stimulus first n) (given_from stimulus (first + n) m) later) ∙ ap (λ l. l ++ later) (sym (given_split stimulus first n m)) in
            subst (λ g. Run net (watch net) s g ((a.rows ++ b.rows) ++ rest)) given_is
            (subst (λ rs. Run net (watch net) s (given_from stimulus first n ++ (given_from stimulus (first + n) m ++ later)) rs) (sym (append_assoc a.rows b.rows rest)) run);
        counted = length-append a.rows b.rows ∙ ap₂ (λ x y. x + y) a.counted b.counted;
        kept = b.kept;
        are = ap₂ (λ x y. x ++ y) a.are (b.are ∙ ap (λ k. lines_from (first + k) b.rows) (sym a.counted)) ∙ sym (lines_split first a.rows b.rows);
      }

  -- All cycles are a run.
  pub whole : (P : NetState → Type 0) (n : ℕ) (lines : List ℕ) → n ≡ stimulus.cycles → LeadsTo net stimulus P first_state 0 n lines → AreLines net stimulus lines
  whole P n lines all a = record {
    rows = a.rows;
    run = subst (λ rs. Run net (watch net) first_state (given_from stimulus 0 stimulus.cycles) rs) (append-nil a.rows)
        (subst (λ g. Run net (watch net) first_state g (a.rows ++ [])) (append-nil (given_from stimulus 0 n) ∙ ap (given_from stimulus 0) all) (a.leads [] [] ended));
    are = a.are;
  }

  -- What the first cycles lead to is the beginning of a run.
  pub extended : (P : NetState → Type 0) (sequence : List ℕ) → IsNet net → IsOrder net sequence → (n : ℕ) (lines : List ℕ) → n ≤ stimulus.cycles → LeadsTo net stimulus P first_state 0 n lines
      → (more : List ℕ) × AreLines net stimulus (lines ++ more)
  extended P sequence well order n lines few a =
      let later = given_from stimulus (0 + n) (stimulus.cycles - n) in
      let rest = run_on net (watch net) sequence well order a.state later in
      let all : n + (stimulus.cycles - n) ≡ stimulus.cycles = omega (arith, few) in (
        lines_from (0 + length a.rows) rest.0,
        record {
          rows = a.rows ++ rest.0;
          run = subst (λ g. Run net (watch net) first_state g (a.rows ++ rest.0)) (sym (given_split stimulus 0 n (stimulus.cycles - n)) ∙ ap (given_from stimulus 0) all) (a.leads later rest.0 rest.1);
          are = ap (λ l. l ++ lines_from (0 + length a.rows) rest.0) a.are ∙ sym (lines_split 0 a.rows rest.0);
        },
      )
