-- What a citation over numbers gives is what it gives over the words that they stand for.
use Rattle.std.proofs.Common.{◌≡◌, ℕ, zero, suc, Bool, true, false, ◌&&◌, ◌||◌, cond, List, [], ◌∷◌, ◌++◌, length, map, drop, refl, sym, ap}
use Rattle.std.proofs.Common.{◌∙◌, arith}
use Rattle.std.specs.Prelude.{◌==◌, slice_index_or, Option, Some, None, Result, Ok, Err, find, filter, if◌then◌else◌}
use mathlib.Core.Bool.{not}
use Rattle.std.specs.Option.{option_map, option_map_or}
use Rattle.std.specs.List.{list_any, list_all, zip, filter_map, flat_map}
use Rattle.std.specs.Cmp.Lexicographic.{pointwise}
use Rattle.std.specs.Str.{bytes_eq}
use Rattle.std.proofs.lemmas.List.{map-append}
use Rattle.mmtext.specs.Words.{Word}
use Rattle.mmsyntax.specs.Tables.{place_of}
use Rattle.mmsyntax.proofs.Distinct.{any-map}
use Rattle.derivation.specs.declared.fault.ProofFaultKind.{ProofFaultKind}
use Rattle.derivation.specs.declared.fault.ProofFaultKind.TheVariants.{WrongType, HypothesisDiffers, NotDisjoint}
use Rattle.source.specs.Scopes.{Hypothesis, typing, premise, Assertion, is_float_of, mandatory_pairs}
use Rattle.verifying.specs.Citations.{Expression, Substitution, same_expression, substitute, replacement, subst, has_type, begins_with as starts_with}
use Rattle.verifying.specs.Citations.{is_instance, variables_in, is_pair_of as is_pair, symbols_apart as words_apart, are_apart as expressions_apart}
use Rattle.verifying.specs.Citations.{hypotheses_fit, pairs_fit}
use Rattle.verifying.specs.Verifies.{Entry, cited}
use Rattle.sourceframes.specs.declared.frame.Piece.{Piece}
use Rattle.sourceframes.specs.declared.frame.Piece.TheVariants.{Itself, Argument}
use Rattle.sourceframes.specs.declared.frame.Demand.{Demand}
use Rattle.sourceframes.specs.declared.frame.Demand.TheVariants.{Typed, Equal}
use Rattle.sourceframes.specs.declared.frame.Frame.{Frame}
use Rattle.sourceframes.specs.declared.thesis.Thesis.{Thesis}
use Rattle.sourcecheck.specs.Coded.{piece_value, filled, begins_with_number, is_typed, types_met, is_equal, equals_met}
use Rattle.sourceframes.specs.Pairs.{is_pair_of_numbers}
use Rattle.sourcecheck.specs.Coded.{is_apart, are_numbers_apart, pairs_met, coded}
use Rattle.sourceframes.specs.Frames.{Part, found, part_in, part_of, asked_in, asked_of, variable_of, IsFrameOf}
use Rattle.sourceframes.proofs.Sameness.{any_alike, same_number, same_number-sym, among_numbers}
use Rattle.sourceframes.specs.Theses.{IsThesisOf, is_variable_of, numbers_apart}

-- ---- tests of lists

all_alike : {A : Type 0} (p q : A → Bool) (xs : List A) → ((x : A) → p x ≡ q x) → list_all p xs ≡ list_all q xs
all_alike p q [] h = refl
all_alike p q (x ∷ xs) h = ap (λ b. b && list_all p xs) (h x) ∙ ap (λ b. q x && b) (all_alike p q xs h)

all_mapped : {A B : Type 0} (p : B → Bool) (f : A → B) (xs : List A) → list_all p (map f xs) ≡ list_all (λ x. p (f x)) xs
all_mapped p f [] = refl
all_mapped p f (x ∷ xs) = ap (λ b. p (f x) && b) (all_mapped p f xs)

all_filtered : {A : Type 0} (p q : A → Bool) (xs : List A) → list_all p (filter q xs) ≡ list_all (λ x. not (q x) || p x) xs
all_filtered p q [] = refl
all_filtered {A} p q (x ∷ xs) =
    let rest = all_filtered p q xs in
    elim (q x) as (λ b. list_all p (cond b (x ∷ filter q xs) (filter q xs)) ≡ ((not b || p x) && list_all (λ x. not (q x) || p x) xs)) [
      | true ↦ ap (λ b. p x && b) rest
      | false ↦ rest
    ]

-- ---- parts of what is cited, over the words of arguments

abbrev pub part_value : List Expression → Part → Expression
part_value es (Ok k) = drop 1 (slice_index_or es k [])
part_value es (Err w) = w ∷ []

later_value : (e : Expression) (es : List Expression) (w : Word) (o : Option ℕ)
    → part_value (e ∷ es) (found w (option_map (λ n. suc n) o)) ≡ part_value es (found w o)
later_value e es w None = refl
later_value e es w (Some k) = refl

replaced : (hs : List Hypothesis) (es : List Expression) (w : Word) → length hs ≡ length es
    → replacement (filter_map (λ p. substitute p.0 p.1) (zip hs es)) w ≡ part_value es (part_in hs w)
replaced [] [] w l = refl
replaced [] (e ∷ es) w l = absurd (omega arith)
replaced (h ∷ hs) [] w l = absurd (omega arith)
replaced (premise label ws ∷ hs) (e ∷ es) w l =
    replaced hs es w (omega arith) ∙ sym (later_value e es w (place_of (is_float_of w) hs))
replaced (typing label c v ∷ hs) (e ∷ es) w l =
    let s = filter_map (λ p. substitute p.0 p.1) (zip hs es) in
    let rest = replaced hs es w (omega arith) ∙ sym (later_value e es w (place_of (is_float_of w) hs)) in
    elim (bytes_eq w v) as (λ b. option_map_or (λ p. p.1) (if b then Some (v, drop 1 e) else find (λ p. bytes_eq w p.0) s) (w ∷ [])
    ≡ part_value (e ∷ es) (found w (if b then Some 0 else option_map (λ n. suc n) (place_of (is_float_of w) hs)))) [
      | true ↦ refl
      | false ↦ rest
    ]

pub substituted : (hs : List Hypothesis) (es : List Expression) (ws : List Word) → length hs ≡ length es
    → subst (filter_map (λ p. substitute p.0 p.1) (zip hs es)) ws ≡ flat_map (part_value es) (map (part_in hs) ws)
substituted hs es [] l = refl
substituted hs es (w ∷ ws) l =
    ap (λ z. z ++ subst (filter_map (λ p. substitute p.0 p.1) (zip hs es)) ws) (replaced hs es w l)
    ∙ ap (λ z. part_value es (part_in hs w) ++ z) (substituted hs es ws l)

-- ---- what the tests choose

abbrev pick : {A : Type 0} → Bool → Bool → Bool → A → Result A ProofFaultKind
pick a b c e =
    if not a then Err WrongType else (if not b then Err HypothesisDiffers else (if not c then Err NotDisjoint else Ok e))

abbrev pub over_words : (ℕ → Word) → Result (List ℕ) ProofFaultKind → Entry
over_words name (Ok e) = Ok (map name e)
over_words name (Err kind) = Err kind

picked : (name : ℕ → Word) (a b c : Bool) (e : List ℕ) → pick a b c (map name e) ≡ over_words name (pick a b c e)
picked name false b c e = refl
picked name true false c e = refl
picked name true true false e = refl
picked name true true true e = refl

-- ---- numbers and the words that they stand for

module _ (name : ℕ → Word) (injective : (m n : ℕ) → name m ≡ name n → m ≡ n) where
  pub same_numbers : (d e : List ℕ) → same_expression (map name d) (map name e) ≡ pointwise (λ a b. a == b) d e
  same_numbers [] [] = refl
  same_numbers [] (n ∷ e) = refl
  same_numbers (m ∷ d) [] = refl
  same_numbers (m ∷ d) (n ∷ e) =
      ap (λ b. b && same_expression (map name d) (map name e)) (same_number-sym name injective m n)
      ∙ ap (λ b. (m == n) && b) (same_numbers d e)

  behind_type : (e : List ℕ) → map name (drop 1 e) ≡ drop 1 (map name e)
  behind_type [] = refl
  behind_type (n ∷ e) = refl

  at_place : (es : List (List ℕ)) (k : ℕ) → map name (slice_index_or es k []) ≡ slice_index_or (map (map name) es) k []
  at_place [] zero = refl
  at_place [] (suc k) = refl
  at_place (e ∷ es) zero = refl
  at_place (e ∷ es) (suc k) = at_place es k

  value_named : (es : List (List ℕ)) (p : Piece) → map name (piece_value es p) ≡ part_value (map (map name) es) (part_of name p)
  value_named es (Itself n) = refl
  value_named es (Argument k) = behind_type (slice_index_or es k []) ∙ ap (drop 1) (at_place es k)

  values_named : (es : List (List ℕ)) (ps : List Piece)
      → map name (filled es ps) ≡ flat_map (part_value (map (map name) es)) (map (part_of name) ps)
  values_named es [] = refl
  values_named es (p ∷ ps) =
      map-append name (piece_value es p) (filled es ps)
      ∙ ap (λ z. z ++ map name (filled es ps)) (value_named es p)
      ∙ ap (λ z. part_value (map (map name) es) (part_of name p) ++ z) (values_named es ps)

  module _ (hyps : List Hypothesis) (es : List (List ℕ)) (long : length hyps ≡ length (map (map name) es)) where
    filling : Substitution
    filling = filter_map (λ p. substitute p.0 p.1) (zip hyps (map (map name) es))

    filled_named : (ps : List Piece) (ws : List Word) → map (part_of name) ps ≡ map (part_in hyps) ws
        → map name (filled es ps) ≡ subst filling ws
    unfolding filling
    filled_named ps ws e =
        values_named es ps ∙ ap (flat_map (part_value (map (map name) es))) e ∙ sym (substituted hyps (map (map name) es) ws long)

    -- ---- types

    begins_named : (n : ℕ) (c : Word) (e : List ℕ) → name n ≡ c → starts_with c (map name e) ≡ begins_with_number n e
    begins_named n c [] h = refl
    begins_named n c (m ∷ e) h = ap (λ d. bytes_eq d (name m)) (sym h) ∙ same_number-sym name injective n m

    typed_named : (d : Demand) (h : Hypothesis) (e : List ℕ) → asked_of name d ≡ asked_in hyps h
        → has_type h (map name e) ≡ is_typed d e
    typed_named (Typed n) (typing label c v) e h = begins_named n c e cc
    typed_named (Typed n) (premise label ws) e h = absurd cc
    typed_named (Equal ps) (typing label c v) e h = absurd cc
    typed_named (Equal ps) (premise label ws) e h = refl

    types_named : (ds : List Demand) (hs : List Hypothesis) (xs : List (List ℕ)) → map (asked_of name) ds ≡ map (asked_in hyps) hs
        → list_all (λ p. has_type p.0 p.1) (zip hs (map (map name) xs)) ≡ list_all (λ p. is_typed p.0 p.1) (zip ds xs)
    types_named [] [] xs h = refl
    types_named [] (k ∷ hs) xs h = absurd cc
    types_named (d ∷ ds) [] xs h = absurd cc
    types_named (d ∷ ds) (k ∷ hs) [] h = refl
    types_named (d ∷ ds) (k ∷ hs) (x ∷ xs) h =
        ap (λ b. b && list_all (λ p. has_type p.0 p.1) (zip hs (map (map name) xs))) (typed_named d k x cc)
        ∙ ap (λ b. is_typed d x && b) (types_named ds hs xs cc)

    -- ---- hypotheses

    equal_named : (d : Demand) (h : Hypothesis) (e : List ℕ) → asked_of name d ≡ asked_in hyps h
        → is_instance filling h (map name e) ≡ is_equal es d e
    equal_named (Typed n) (typing label c v) e h = refl
    equal_named (Typed n) (premise label ws) e h = absurd cc
    equal_named (Equal ps) (typing label c v) e h = absurd cc
    equal_named (Equal ps) (premise label ws) e h =
        ap (λ z. same_expression z (map name e)) (sym (filled_named ps.items ws cc)) ∙ same_numbers (filled es ps.items) e

    equals_named : (ds : List Demand) (hs : List Hypothesis) (xs : List (List ℕ)) → map (asked_of name) ds ≡ map (asked_in hyps) hs
        → list_all (λ p. is_instance filling p.0 p.1) (zip hs (map (map name) xs)) ≡ list_all (λ p. is_equal es p.0 p.1) (zip ds xs)
    equals_named [] [] xs h = refl
    equals_named [] (k ∷ hs) xs h = absurd cc
    equals_named (d ∷ ds) [] xs h = absurd cc
    equals_named (d ∷ ds) (k ∷ hs) [] h = refl
    equals_named (d ∷ ds) (k ∷ hs) (x ∷ xs) h =
        ap (λ b. b && list_all (λ p. is_instance filling p.0 p.1) (zip hs (map (map name) xs))) (equal_named d k x cc)
        ∙ ap (λ b. is_equal es d x && b) (equals_named ds hs xs cc)

  -- ---- pairs

  module _ (x : Assertion) (t : Thesis) (of : IsThesisOf name t x) where
    floats_among : (hs : List Hypothesis) (w : Word) → list_any (is_float_of w) hs ≡ list_any (bytes_eq w) (filter_map variable_of hs)
    floats_among [] w = refl
    floats_among (typing label c v ∷ hs) w = ap (λ b. bytes_eq w v || b) (floats_among hs w)
    floats_among (premise label ws ∷ hs) w = floats_among hs w

    variable_named : (n : ℕ) → list_any (is_float_of (name n)) x.active ≡ is_variable_of t n
    variable_named n =
        floats_among x.active (name n) ∙ ap (list_any (bytes_eq (name n))) (sym of.floats)
        ∙ among_numbers name injective t.floats n

    pair_named : (u v : ℕ) (p : ℕ × ℕ) → is_pair (name u) (name v) (name p.0, name p.1) ≡ is_pair_of_numbers u v p
    pair_named u v p =
        ap (λ b. (b && bytes_eq (name v) (name p.1)) || (bytes_eq (name u) (name p.1) && bytes_eq (name v) (name p.0)))
        (same_number name injective u p.0)
        ∙ ap (λ b. ((p.0 == u) && b) || (bytes_eq (name u) (name p.1) && bytes_eq (name v) (name p.0))) (same_number name injective v p.1)
        ∙ ap (λ b. ((p.0 == u) && (p.1 == v)) || (b && bytes_eq (name v) (name p.0))) (same_number name injective u p.1)
        ∙ ap (λ b. ((p.0 == u) && (p.1 == v)) || ((p.1 == u) && b)) (same_number name injective v p.0)

    symbols_named : (u v : ℕ) → words_apart x (name u) (name v) ≡ numbers_apart t u v
    symbols_named u v =
        ap (λ b. not b && list_any (is_pair (name u) (name v)) x.pairs) (same_number-sym name injective u v)
        ∙ ap (λ ps. not (u == v) && list_any (is_pair (name u) (name v)) ps) (sym of.pairs)
        ∙ ap (λ b. not (u == v) && b) (any-map (is_pair (name u) (name v)) (λ p. (name p.0, name p.1)) t.pairs
        ∙ any_alike (λ p. is_pair (name u) (name v) (name p.0, name p.1)) (is_pair_of_numbers u v) t.pairs (pair_named u v))

    of_variables : (q : Word → Bool) (e : List ℕ)
        → list_all q (variables_in x (map name e)) ≡ list_all (λ n. not (is_variable_of t n) || q (name n)) e
    of_variables q e =
        all_filtered q (λ w. list_any (is_float_of w) x.active) (map name e)
        ∙ all_mapped (λ w. not (list_any (is_float_of w) x.active) || q w) name e
        ∙ all_alike (λ n. not (list_any (is_float_of (name n)) x.active) || q (name n)) (λ n. not (is_variable_of t n) || q (name n)) e
        (λ n. ap (λ b. not b || q (name n)) (variable_named n))

    apart_named : (d e : List ℕ) → expressions_apart x (map name d) (map name e) ≡ are_numbers_apart t d e
    apart_named d e =
        of_variables (λ u. list_all (words_apart x u) (variables_in x (map name e))) d
        ∙ all_alike (λ n. not (is_variable_of t n) || list_all (words_apart x (name n)) (variables_in x (map name e)))
        (λ n. not (is_variable_of t n) || is_apart t n e) d
        (λ n. ap (λ b. not (is_variable_of t n) || b) (of_variables (words_apart x (name n)) e
        ∙ all_alike (λ m. not (is_variable_of t m) || words_apart x (name n) (name m))
        (λ m. not (is_variable_of t m) || numbers_apart t n m) e
        (λ m. ap (λ b. not (is_variable_of t m) || b) (symbols_named n m))))

    pairs_named : (c : Assertion) (ps : List (Piece × Piece)) (es : List (List ℕ)) → length c.hypotheses ≡ length (map (map name) es)
        → map {B = Part × Part} (λ p. (part_of name p.0, part_of name p.1)) ps
        ≡ map {B = Part × Part} (λ p. (part_in c.hypotheses p.0, part_in c.hypotheses p.1)) (mandatory_pairs c)
        → pairs_fit x c (map (map name) es) ≡ pairs_met t ps es
    pairs_named c ps es long h =
        let hs = c.hypotheses in
        let vs = map (map name) es in
        let s = filter_map (λ p. substitute p.0 p.1) (zip hs vs) in
        all_alike (λ p. expressions_apart x (replacement s p.0) (replacement s p.1))
        (λ p. expressions_apart x (part_value vs (part_in hs p.0)) (part_value vs (part_in hs p.1))) (mandatory_pairs c)
        (λ p. ap (λ d. expressions_apart x d (replacement s p.1)) (replaced hs vs p.0 long)
        ∙ ap (λ e. expressions_apart x (part_value vs (part_in hs p.0)) e) (replaced hs vs p.1 long))
        ∙ sym (all_mapped (λ q. expressions_apart x (part_value vs q.0) (part_value vs q.1)) (λ p. (part_in hs p.0, part_in hs p.1))
        (mandatory_pairs c))
        ∙ ap (list_all (λ q. expressions_apart x (part_value vs q.0) (part_value vs q.1))) (sym h)
        ∙ all_mapped (λ q. expressions_apart x (part_value vs q.0) (part_value vs q.1)) (λ p. (part_of name p.0, part_of name p.1)) ps
        ∙ all_alike (λ p. expressions_apart x (part_value vs (part_of name p.0)) (part_value vs (part_of name p.1)))
        (λ p. are_numbers_apart t (piece_value es p.0) (piece_value es p.1)) ps
        (λ p. ap (λ d. expressions_apart x d (part_value vs (part_of name p.1))) (sym (value_named es p.0))
        ∙ ap (λ e. expressions_apart x (map name (piece_value es p.0)) e) (sym (value_named es p.1))
        ∙ apart_named (piece_value es p.0) (piece_value es p.1))

    -- ---- a citation

    pub cited_named : (c : Assertion) (f : Frame) (es : List (List ℕ)) → IsFrameOf name f c
        → length c.hypotheses ≡ length (map (map name) es) → cited x c (map (map name) es) ≡ over_words name (coded t f es)
    unfolding filling
    cited_named c f es is long =
        let vs = map (map name) es in
        let e = subst (filter_map (λ p. substitute p.0 p.1) (zip c.hypotheses vs)) c.statement in
        ap (λ b. pick b (hypotheses_fit c vs) (pairs_fit x c vs) e) (types_named c.hypotheses es long f.demands.items c.hypotheses es
        is.demands)
        ∙ ap (λ b. pick (types_met f.demands.items es) b (pairs_fit x c vs) e)
        (equals_named c.hypotheses es long f.demands.items c.hypotheses es is.demands)
        ∙ ap (λ b. pick (types_met f.demands.items es) (equals_met f.demands.items es) b e) (pairs_named c f.pairs.items es long is.pairs)
        ∙ ap (pick (types_met f.demands.items es) (equals_met f.demands.items es) (pairs_met t f.pairs.items es))
        (sym (filled_named c.hypotheses es long f.statement.items c.statement is.statement))
        ∙ picked name (types_met f.demands.items es) (equals_met f.demands.items es) (pairs_met t f.pairs.items es)
        (filled es f.statement.items)
