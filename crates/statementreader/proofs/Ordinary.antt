-- No word of a declared statement opens or closes a comment, or includes a file.
use Rattle.std.proofs.Common.{ℕ, List, [], ◌∷◌, ◌++◌, length, refl}
use Rattle.std.specs.Prelude.{codes, All, IsTrue}
use Rattle.std.specs.List.{flat_map}
use Rattle.std.proofs.lemmas.List.Elements.{All-nil, All-cons, All-append}
use Rattle.mmsyntax.specs.declared.statement.Symbol.{Symbol}
use Rattle.mmsyntax.specs.declared.statement.Step.{Step}
use Rattle.mmsyntax.specs.declared.statement.Assertion.{Assertion}
use Rattle.mmtext.specs.Words.{Word, is_label}
use Rattle.mmtext.specs.Text.{mark_of}
use Rattle.mmsyntax.specs.Tables.{Tables}
use Rattle.mmsyntax.specs.Rows.{Known, with_constant, with_variable}
use Rattle.mmsyntax.specs.Blocks.{Hypothesis, Block, no_block, with_distinct}
use Rattle.mmsyntax.specs.Grammar.{Claim, asserted, proved, Piece, distinct, hypothesis, Statement, constants, variables, float}
use Rattle.mmsyntax.specs.Grammar.{alone, block}
use Rattle.mmsyntax.specs.Grammar.{claim_spelling, piece_spelling, spelling, DeclaresConstants, DeclaresVariables, ReadsAfter}
use Rattle.mmsyntax.specs.Grammar.{Restricts}
use Rattle.mmsyntax.specs.Grammar.{StepsAfter, Claims, Holds, HoldAll, Declares, DeclareAll}
use Rattle.walks.proofs.Walks.{IsOrdinary, plain_is_ordinary}
use Rattle.statementreader.proofs.Keywords.{label_plain, declared_plain, symbol_plain, type_plain, variable_plain, distinct_plain}
use Rattle.statementreader.proofs.Keywords.{step_plain}

-- ---- keywords

keywords :
    IsOrdinary (codes "$c") × IsOrdinary (codes "$v") × IsOrdinary (codes "$f") × IsOrdinary (codes "$a") × IsOrdinary (codes "$p")
    × IsOrdinary (codes "$e") × IsOrdinary (codes "$d") × IsOrdinary (codes "${") × IsOrdinary (codes "$}") × IsOrdinary (codes "$=")
    × IsOrdinary (codes "$.")
unfolding mark_of
keywords = (refl, refl, refl, refl, refl, refl, refl, refl, refl, refl, refl)

-- words and their end
ended : (ws : List Word) → All IsOrdinary ws → All IsOrdinary (ws ++ codes "$." ∷ [])
ended ws h = All-append IsOrdinary ws (codes "$." ∷ []) h (All-cons IsOrdinary (codes "$.") [] keywords.10 (All-nil IsOrdinary))

label : (w : Word) → IsTrue (is_label w) → IsOrdinary w
label w h = plain_is_ordinary w (label_plain w h)

-- ---- words of statements

constants_ordinary : (k : Known) (ws : List Word) (after : Known) → DeclaresConstants k ws after → All IsOrdinary ws
constants_ordinary k [] after d = All-nil IsOrdinary
constants_ordinary k (w ∷ ws) after d =
    All-cons IsOrdinary w ws (plain_is_ordinary w (declared_plain k (length k.tables.constants) w d.0))
    (constants_ordinary (with_constant k w) ws after d.1)

variables_ordinary : (k : Known) (ws : List Word) (after : Known) → DeclaresVariables k ws after → All IsOrdinary ws
variables_ordinary k [] after d = All-nil IsOrdinary
variables_ordinary k (w ∷ ws) after d =
    All-cons IsOrdinary w ws (plain_is_ordinary w (declared_plain k (length k.tables.variables) w d.0))
    (variables_ordinary (with_variable k w) ws after d.1)

symbols_ordinary : (t : Tables) (front : List Symbol) (ws : List Word) (e : List Symbol) → ReadsAfter t front ws e → All IsOrdinary ws
symbols_ordinary t front [] e d = All-nil IsOrdinary
symbols_ordinary t front (w ∷ ws) e d =
    All-cons IsOrdinary w ws (plain_is_ordinary w (symbol_plain t (length front) w d.0 d.1))
    (symbols_ordinary t (front ++ d.0 ∷ []) ws e d.2)

restricted_ordinary : (t : Tables) (b : Block) (vs : List ℕ) (ws : List Word) (held : Block) → Restricts t b vs ws held → All IsOrdinary ws
restricted_ordinary t b vs [] held d = All-nil IsOrdinary
restricted_ordinary t b vs (w ∷ ws) held d =
    All-cons IsOrdinary w ws (plain_is_ordinary w (distinct_plain t vs b.pairs w d.0 d.1))
    (restricted_ordinary t (with_distinct b vs d.0) (vs ++ d.0 ∷ []) ws held d.2)

steps_ordinary : (t : Tables) (l : Word) (hyps : List Hypothesis) (front : List Step) (ws : List Word) (steps : List Step)
    → StepsAfter t l hyps front ws steps → All IsOrdinary ws
steps_ordinary t l hyps front [] steps d = All-nil IsOrdinary
steps_ordinary t l hyps front (w ∷ ws) steps d =
    All-cons IsOrdinary w ws (plain_is_ordinary w (step_plain t l hyps (length front) w d.0 d.1))
    (steps_ordinary t l hyps (front ++ d.0 ∷ []) ws steps d.2)

-- ---- statements

claim_ordinary : (k : Known) (b : Block) (c : Claim) (a : Assertion) → Claims k b c a → All IsOrdinary (claim_spelling c)
claim_ordinary k b (asserted w ws) a d =
    let n = d.3 in
    All-cons IsOrdinary w (codes "$a" ∷ (ws ++ codes "$." ∷ [])) (label w d.0)
    (All-cons IsOrdinary (codes "$a") _ keywords.3 (ended ws (symbols_ordinary k.tables [] ws n.0 n.1)))
claim_ordinary k b (proved w ws ps) a d =
    let n = d.4 in
    All-cons IsOrdinary w (codes "$p" ∷ (ws ++ codes "$=" ∷ (ps ++ codes "$." ∷ []))) (label w d.0)
    (All-cons IsOrdinary (codes "$p") _ keywords.4
    (All-append IsOrdinary ws (codes "$=" ∷ (ps ++ codes "$." ∷ [])) (symbols_ordinary k.tables [] ws n.0 n.2)
    (All-cons IsOrdinary (codes "$=") _ keywords.9 (ended ps (steps_ordinary k.tables w b.hyps [] ps n.1 n.3)))))

piece_ordinary : (k : Known) (b : Block) (p : Piece) (after : Known) (held : Block) → Holds k b p after held
    → All IsOrdinary (piece_spelling p)
piece_ordinary k b (distinct ws) after held d =
    All-cons IsOrdinary (codes "$d") _ keywords.6 (ended ws (restricted_ordinary k.tables b [] ws held d.1))
piece_ordinary k b (hypothesis w ws) after held d =
    let n = d.3 in
    All-cons IsOrdinary w (codes "$e" ∷ (ws ++ codes "$." ∷ [])) (label w d.0)
    (All-cons IsOrdinary (codes "$e") _ keywords.5 (ended ws (symbols_ordinary k.tables [] ws n.0 n.1)))

pieces_ordinary : (k : Known) (b : Block) (ps : List Piece) (after : Known) (held : Block) → HoldAll k b ps after held
    → All IsOrdinary (flat_map piece_spelling ps)
pieces_ordinary k b [] after held d = All-nil IsOrdinary
pieces_ordinary k b (p ∷ ps) after held d =
    All-append IsOrdinary (piece_spelling p) (flat_map piece_spelling ps) (piece_ordinary k b p d.0 d.1 d.2)
    (pieces_ordinary d.0 d.1 ps after held d.3)

pub statement_ordinary : (k : Known) (s : Statement) (after : Known) → Declares k s after → All IsOrdinary (spelling s)
statement_ordinary k (constants ws) after d =
    All-cons IsOrdinary (codes "$c") _ keywords.0 (ended ws (constants_ordinary k ws after d.2))
statement_ordinary k (variables ws) after d =
    All-cons IsOrdinary (codes "$v") _ keywords.1 (ended ws (variables_ordinary k ws after d.2))
statement_ordinary k (float w c v) after d =
    let n = d.3 in
    All-cons IsOrdinary w (codes "$f" ∷ c ∷ v ∷ codes "$." ∷ []) (label w d.1)
    (All-cons IsOrdinary (codes "$f") (c ∷ v ∷ codes "$." ∷ []) keywords.2
    (All-cons IsOrdinary c (v ∷ codes "$." ∷ []) (plain_is_ordinary c (type_plain k.tables c n.0 n.2))
    (All-cons IsOrdinary v (codes "$." ∷ []) (plain_is_ordinary v (variable_plain k.tables v n.1 n.3)) (ended [] (All-nil IsOrdinary)))))
statement_ordinary k (alone c) after d = claim_ordinary k no_block c d.0 d.1
statement_ordinary k (block ps c) after d =
    All-cons IsOrdinary (codes "${") (flat_map piece_spelling ps ++ (claim_spelling c ++ codes "$}" ∷ [])) keywords.7
    (All-append IsOrdinary (flat_map piece_spelling ps) (claim_spelling c ++ codes "$}" ∷ [])
    (pieces_ordinary k no_block ps d.0 d.1 d.3)
    (All-append IsOrdinary (claim_spelling c) (codes "$}" ∷ []) (claim_ordinary d.0 d.1 c d.2 d.4)
    (All-cons IsOrdinary (codes "$}") [] keywords.8 (All-nil IsOrdinary))))

pub statements_ordinary : (k : Known) (ss : List Statement) (after : Known) → DeclareAll k ss after
    → All IsOrdinary (flat_map spelling ss)
statements_ordinary k [] after d = All-nil IsOrdinary
statements_ordinary k (s ∷ ss) after d =
    All-append IsOrdinary (spelling s) (flat_map spelling ss) (statement_ordinary k s d.0 d.1) (statements_ordinary d.0 ss after d.2)
