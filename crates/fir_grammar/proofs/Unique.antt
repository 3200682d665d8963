-- One laid list is the spelling of at most one circuit.
use Rattle.std.proofs.Common.{◌≡◌, ℕ, List, [], ◌∷◌, ◌++◌, refl, sym, ap, ap₂, subst, ◌∙◌}
use Rattle.std.proofs.Math.Path.{Path}
use Rattle.place_text.specs.declared.place.Place.{Place}
use Rattle.place_text.specs.Places.{place}
use Rattle.fir_layout.specs.declared.laid.Laid.{Laid}
use Rattle.fir_layout.specs.Pieces.{pieces_of, bytes_of}
use Rattle.bit_words.specs.declared.number.Number.{Number}
use Rattle.fir_types.specs.declared.name.Name.{Name}
use Rattle.fir_tree.specs.declared.circuit.Circuit.{Circuit}
use Rattle.fir_grammar.specs.Grammar.{Rule, Symbol, A, Tree, Values, tree, Derives, done, Text, IsCircuit, start_of, name_in, Spells, no_symbol, a_rule, a_piece, a_place, a_name, a_magnitude, a_placed_magnitude, a_quoted, a_format, IsSpelled, a_text, circuit_of, field_names}
use Rattle.fir_grammar.specs.Reading.{IsSettled}
use Rattle.fir_grammar.proofs.Fronts.{spelled_derives}
use Rattle.fir_grammar.proofs.Follows.{settled_case}
use Rattle.fir_lexer.specs.declared.token.Token.{Token}
use Rattle.fir_layout.specs.declared.laid.Laid.TheVariants.{Item}
use Rattle.bit_words.specs.Numbers.{IsMagnitude}
use Rattle.fir_tree.specs.declared.print.Piece.{Piece as PrintPiece}
use Rattle.item_lines.specs.declared.line.LineModule.{LineModule}
use Rattle.item_lines.proofs.Formats.{formats_agree}
use Rattle.fir_tree.specs.Numbered.{IsDistinct}
use Rattle.fir_tree.proofs.Distinct.{names_agree}
use Rattle.fir_grammar.proofs.Agreement.{fields_distinct, magnitudes_agree, quoted_agree}
use Rattle.fir_grammar.proofs.Cases.{Chosen, same_case}

pub record Agree (ss : List Symbol) (v w : Values ss) (rest rest' : List Laid) (after after' : List (List ℕ)) : Type 0 where
  pub values : Path (Values ss) v w
  pub rest_is : rest ≡ rest'
  pub names : after ≡ after'
  pub distinct : IsDistinct after

-- what is said of the first rule's tree
record TreesAgree (r : Rule) (t u : Tree r) (mid mid' : List Laid) (between between' : List (List ℕ)) : Type 0 where
  tree_is : Path (Tree r) t u
  mid_is : mid ≡ mid'
  names : between ≡ between'
  distinct : IsDistinct between

abbrev named : Place → ℕ → Name
named at id = record { id = id; place = at }

module _ (major : ℕ) (text : List ℕ) where
  -- with symbols behind them that derive what is left
  pub one_spelling : {ss : List Symbol} {ls rest rest' : List Laid} {names after after' : List (List ℕ)} {v w : Values ss} (others : List Symbol)
      → IsSettled (ss ++ others) → IsDistinct names → Spells major text ss ls names v rest after → Derives others (pieces_of text rest)
      → Spells major text ss ls names w rest' after' → Derives others (pieces_of text rest') → Agree ss v w rest rest' after after'
  one_spelling others settled distinct no_symbol d no_symbol e = record { values = refl; rest_is = refl; names = refl; distinct = distinct }
  one_spelling {rest'} {after'} others settled distinct (a_rule {r} {ss} {body} {ls} {mid} {names} {between} {ws} case inner more) d
      (a_rule {body = body'} {mid = mid'} {between = between'} {ws = ws'} {vs = vs'} case' inner' more') e =
      let behind : Derives (ss ++ others) (pieces_of text mid) = spelled_derives text more d in
      let behind' : Derives (ss ++ others) (pieces_of text mid') = spelled_derives text more' e in
      let same : Path (Chosen r) (body, case) (body', case') =
      same_case (ss ++ others) (pieces_of text ls) settled case case' (spelled_derives text inner behind) (spelled_derives text inner' behind') in
      let P : Chosen r → Type 0 = λ q. (us : Values q.0) → Spells major text q.0 ls names us mid' between' → TreesAgree r (tree major case ws) (tree major q.1 us) mid mid' between between' in
      let base : P (body, case) = λ us s.
      let a = one_spelling (ss ++ others) (settled_case (ss ++ others) case settled) distinct inner behind s behind' in
      record { tree_is = ap (tree major case) a.values; mid_is = a.rest_is; names = a.names; distinct = a.distinct } in
      let first : TreesAgree r (tree major case ws) (tree major case' ws') mid mid' between between' = subst P same base ws' inner' in
      let there : Spells major text ss mid between vs' rest' after' =
      subst (λ (m : List Laid). Spells major text ss m between vs' rest' after') (sym first.mid_is) (subst (λ (n : List (List ℕ)). Spells major text ss mid' n vs' rest' after') (sym first.names) more') in
      let second = one_spelling others settled.1 first.distinct more d there e in
      record { values = ap₂ (λ (t : Tree r) (x : Values ss). (t, x)) first.tree_is second.values; rest_is = second.rest_is; names = second.names; distinct = second.distinct }
  one_spelling others settled distinct (a_piece h more) d (a_piece h' more') e =
      let r = one_spelling others settled distinct more d more' e in record { values = r.values; rest_is = r.rest_is; names = r.names; distinct = r.distinct }
  one_spelling others settled distinct (a_place {ss} {l} h more) d (a_place h' more') e =
      let r = one_spelling others settled distinct more d more' e in
      record { values = ap (λ (x : Values ss). (place text (start_of l), x)) r.values; rest_is = r.rest_is; names = r.names; distinct = r.distinct }
  one_spelling {rest'} {after'} others settled distinct (a_name {ss} {token} {ls} {names} {more = m} {id} h adds more) d (a_name {more = m'} {vs = vs'} {id = id'} h' adds' more') e =
      let n = names_agree names m m' (name_in token.kind (bytes_of text token)) id id' distinct adds adds' in
      let there : Spells major text ss ls m vs' rest' after' = subst (λ (list : List (List ℕ)). Spells major text ss ls list vs' rest' after') (sym n.names) more' in
      let r = one_spelling others settled n.distinct more d there e in
      record { values = ap₂ (λ (i : ℕ) (x : Values ss). (named (place text token.start) i, x)) n.number r.values; rest_is = r.rest_is; names = r.names; distinct = r.distinct }
  one_spelling others settled distinct (a_magnitude {ss} {token} {n} h is more) d (a_magnitude {n = n'} h' is' more') e =
      let r = one_spelling others settled distinct more d more' e in
      record { values = ap₂ (λ (i : ℕ) (x : Values ss). (i, x)) (magnitudes_agree (bytes_of text token) n n' is is') r.values; rest_is = r.rest_is; names = r.names; distinct = r.distinct }
  one_spelling others settled distinct (a_placed_magnitude {ss} {token} {n} h is more) d (a_placed_magnitude {n = n'} h' is' more') e =
      let r = one_spelling others settled distinct more d more' e in
      record {
        values = ap₂ (λ (i : ℕ) (x : Values ss). (place text token.start, (i, x))) (magnitudes_agree (bytes_of text token) n n' is is') r.values;
        rest_is = r.rest_is;
        names = r.names;
        distinct = r.distinct;
      }
  one_spelling others settled distinct (a_quoted {ss} {token} {n} h is more) d (a_quoted {n = n'} h' is' more') e =
      let r = one_spelling others settled distinct more d more' e in
      record { values = ap₂ (λ (i : Number) (x : Values ss). (i, x)) (quoted_agree (bytes_of text token) n n' is is') r.values; rest_is = r.rest_is; names = r.names; distinct = r.distinct }
  one_spelling others settled distinct (a_format {ss} {token} {pieces} h is more) d (a_format {pieces = pieces'} h' is' more') e =
      let r = one_spelling others settled distinct more d more' e in
      record { values = ap₂ (λ (i : List PrintPiece) (x : Values ss). (i, x)) (formats_agree (bytes_of text token) pieces pieces' is is') r.values; rest_is = r.rest_is; names = r.names; distinct = r.distinct }

-- a list spells texts of one version alone
record Version_is (text : List ℕ) (list : List Laid) (major : ℕ) : Type 0 where
  first : Laid
  second : Laid
  token : Token
  others : List Laid
  is : list ≡ first ∷ second ∷ Item token ∷ others
  magnitude : IsMagnitude (bytes_of text token) major

version_is : {text : List ℕ} {list rest : List Laid} {names after : List (List ℕ)} {read major : ℕ} {main : Name} {modules : List LineModule}
    → Spells read text (A Text ∷ []) list names ((major, (main, modules)), tt) rest after → Version_is text list major
version_is (a_rule a_text (a_piece {l} h (a_piece {l = m} i (a_magnitude {token} {ls} j is more))) no_symbol) =
    record { first = l; second = m; token = token; others = ls; is = refl; magnitude = is }

same_version : {text : List ℕ} {list : List Laid} {major other : ℕ} → Version_is text list major → Version_is text list other → major ≡ other
same_version {text} {list} {major} {other} v w =
    let same : v.token ≡ w.token = ap (token_of v.token) (sym v.is ∙ w.is) in
    magnitudes_agree (bytes_of text w.token) major other (subst (λ (t : Token). IsMagnitude (bytes_of text t) major) same v.magnitude) w.magnitude
  where
    token_of : Token → List Laid → Token
    token_of t (a ∷ b ∷ Item u ∷ others) = u
    token_of t _ = t

pub record OneSpelled (major other : ℕ) (main main' : Name) (modules modules' : List LineModule) (names names' : List (List ℕ)) : Type 0 where
  pub version : major ≡ other
  pub main_is : main ≡ main'
  pub modules_are : modules ≡ modules'
  pub names_are : names ≡ names'

pub one_spelled : (text : List ℕ) (list : List Laid) {major other : ℕ} {main main' : Name} {modules modules' : List LineModule} {names names' : List (List ℕ)}
    → IsSpelled text list major main modules names → IsSpelled text list other main' modules' names' → OneSpelled major other main main' modules modules' names names'
one_spelled text list {major} {other} {main} {main'} {modules} {modules'} {names} {names'} x y =
    let same : other ≡ major = same_version (version_is y.spelled) (version_is x.spelled) in
    let there : Spells major text (A Text ∷ []) list field_names ((major, (main', modules')), tt) [] names' =
    subst (λ (m : ℕ). Spells m text (A Text ∷ []) list field_names ((m, (main', modules')), tt) [] names') same y.spelled in
    let r = one_spelling major text [] (tt, tt) fields_distinct x.spelled done there done in
    record {
      version = sym same;
      main_is = ap (λ (v : Values (A Text ∷ [])). v.0.1.0) r.values;
      modules_are = ap (λ (v : Values (A Text ∷ [])). v.0.1.1) r.values;
      names_are = r.names;
    }

pub one_circuit : (text : List ℕ) (list : List Laid) (a b : Circuit) → IsCircuit text list a → IsCircuit text list b → a ≡ b
one_circuit text list a b x y =
    let r = one_spelled text list x.spelled y.spelled in
    x.is ∙ (λ j. circuit_of (r.main_is j) (r.modules_are j) (r.names_are j)) ∙ sym y.is
