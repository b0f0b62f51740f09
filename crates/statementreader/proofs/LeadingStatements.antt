-- What is spelled is read: the words of whole statements lead from one statement to the next.
use Rattle.std.proofs.Common.{◌≡◌, ◌≢◌, ℕ, false, List, [], ◌∷◌, ◌++◌, Result, Ok, refl, sym, ap, subst, ◌∙◌, inr, append_assoc}
use Rattle.std.specs.Prelude.{codes, IsTrue}
use Rattle.std.specs.List.{flat_map}
use Rattle.std.proofs.lemmas.Bool.{cond-true}
use Rattle.std.proofs.lemmas.List.Concat.{flat_map-cons}
use Rattle.mmsyntax.specs.declared.statement.Symbol.{Symbol}
use Rattle.mmsyntax.specs.declared.statement.Step.{Step}
use Rattle.mmsyntax.specs.declared.statement.Assertion.{Assertion}
use Rattle.mmtext.specs.declared.fault.FaultKind.TheVariants.{OutOfProfile}
use Rattle.mmtext.specs.declared.fault.TextFault.{TextFault}
use Rattle.mmtext.specs.declared.mark.Mark.TheVariants as mark
use Rattle.mmtext.specs.Words.{Word}
use Rattle.mmtext.specs.Text.{Token, mark_of}
use Rattle.mmtext.specs.Comments.{words_of}
use Rattle.mmtext.specs.Languages.{Language, fault}
use Rattle.mmsyntax.specs.Rows.{Known, Pass, in_prelude, float_label_tests, assertion_label_tests, type_of, variable_of, with_float}
use Rattle.mmsyntax.specs.Rows.{with_hypothesis_label, with_assertion}
use Rattle.mmsyntax.specs.Blocks.{Block, no_block, hypothesis_label_tests, with_hypothesis, axiom_of, theorem_of}
use Rattle.mmsyntax.specs.Faults.{Scope, outside, inside, block_of, at_start, at_close, after_label, in_constants, in_variables}
use Rattle.mmsyntax.specs.Faults.{float_type, float_variable, float_end, in_distinct, in_hypothesis, in_axiom, in_theorem, in_proof}
use Rattle.mmsyntax.specs.Faults.{Position, at, tested, given, next_symbol, behind, in_place, row}
use Rattle.mmsyntax.specs.Grammar.{Claim, asserted, proved, Piece, distinct, hypothesis, Statement, constants, variables, float}
use Rattle.mmsyntax.specs.Grammar.{alone, block}
use Rattle.mmsyntax.specs.Grammar.{claim_spelling, piece_spelling, spelling, Claims, Holds, HoldAll, Declares, DeclareAll}
use Rattle.walks.proofs.Walks.{walk, walk_ends}
use Rattle.statementreader.proofs.Keywords.{constants_mark, variables_mark, float_mark, axiom_mark, provable_mark, essential_mark}
use Rattle.statementreader.proofs.Keywords.{disjoint_mark}
use Rattle.statementreader.proofs.Keywords.{opening_mark, closing_mark, proof_mark, end_mark, mark_plain, type_plain, variable_plain}
use Rattle.statementreader.proofs.Leading.{there, home, GoesOn, GoesOnInside, row_at, passed, label_row_is, takes, keeps}
use Rattle.statementreader.proofs.Leading.{constants_lead, variables_lead, symbols_lead, steps_lead, restricted_lead}

-- ---- behind labels

axiom_keyword : (k : Known) (s : Scope) (label t : Token)
    → in_place k (after_label s label) t mark.Axiom
    ≡ tested label (assertion_label_tests k label.text) (at k (in_axiom s label.text []))
axiom_keyword k outside label t = refl
axiom_keyword k (inside b) label t = refl

theorem_keyword : (k : Known) (s : Scope) (label t : Token)
    → in_place k (after_label s label) t mark.Provable
    ≡ tested label (assertion_label_tests k label.text) (at k (in_theorem s label.text []))
theorem_keyword k outside label t = refl
theorem_keyword k (inside b) label t = refl

axiom_keyword_is : (k : Known) (s : Scope) (label t : Token) (w : Word) → label.text ≡ w → Pass (assertion_label_tests k w)
    → t.text ≡ codes "$a" → row (there k (after_label s label)) t ≡ Ok (there k (in_axiom s w []))
axiom_keyword_is k s label t w e pass g =
    row_at k (after_label s label) t mark.Axiom _ (ap mark_of g ∙ axiom_mark)
    (axiom_keyword k s label t
    ∙ passed label (assertion_label_tests k label.text) (at k (in_axiom s label.text []))
    (subst (λ x. Pass (assertion_label_tests k x)) (sym e) pass)
    ∙ ap (λ x. at k (in_axiom s x [])) e)

theorem_keyword_is : (k : Known) (s : Scope) (label t : Token) (w : Word) → label.text ≡ w → Pass (assertion_label_tests k w)
    → t.text ≡ codes "$p" → row (there k (after_label s label)) t ≡ Ok (there k (in_theorem s w []))
theorem_keyword_is k s label t w e pass g =
    row_at k (after_label s label) t mark.Provable _ (ap mark_of g ∙ provable_mark)
    (theorem_keyword k s label t
    ∙ passed label (assertion_label_tests k label.text) (at k (in_theorem s label.text []))
    (subst (λ x. Pass (assertion_label_tests k x)) (sym e) pass)
    ∙ ap (λ x. at k (in_theorem s x [])) e)

hypothesis_keyword_is : (k : Known) (b : Block) (label t : Token) (w : Word) → label.text ≡ w → Pass (hypothesis_label_tests k b w)
    → t.text ≡ codes "$e" → row (there k (after_label (inside b) label)) t ≡ Ok (there k (in_hypothesis b w []))
hypothesis_keyword_is k b label t w e pass g =
    row_at k (after_label (inside b) label) t mark.Essential _ (ap mark_of g ∙ essential_mark)
    (passed label (hypothesis_label_tests k b label.text) (at k (in_hypothesis b label.text []))
    (subst (λ x. Pass (hypothesis_label_tests k b x)) (sym e) pass)
    ∙ ap (λ x. at k (in_hypothesis b x [])) e)

float_keyword_is : (k : Known) (label t : Token) (w : Word) → label.text ≡ w → IsTrue (in_prelude k) → Pass (float_label_tests k w)
    → t.text ≡ codes "$f" → row (there k (after_label outside label)) t ≡ Ok (there k (float_type w))
float_keyword_is k label t w e early pass g =
    let next = at k (float_type label.text) in
    row_at k (after_label outside label) t mark.Floating _ (ap mark_of g ∙ float_mark)
    (cond-true (in_prelude k) (tested label (float_label_tests k label.text) next) (fault t OutOfProfile) early
    ∙ passed label (float_label_tests k label.text) next (subst (λ x. Pass (float_label_tests k x)) (sym e) pass)
    ∙ ap (λ x. at k (float_type x)) e)

-- ---- in $f

type_row_is : (k : Known) (label c : Word) (i : ℕ) (t : Token) → type_of k.tables c ≡ Ok i → t.text ≡ c
    → row (there k (float_type label)) t ≡ Ok (there k (float_variable label i))
type_row_is k label c i t h g =
    let read : type_of k.tables t.text ≡ Ok i = ap (type_of k.tables) g ∙ h in
    row_at k (float_type label) t mark.Plain _ (mark_plain t.text (type_plain k.tables t.text i read))
    (ap (λ r. given t r (λ i. at k (float_variable label i))) read)

variable_row_is : (k : Known) (label v : Word) (i j : ℕ) (t : Token) → variable_of k.tables v ≡ Ok j → t.text ≡ v
    → row (there k (float_variable label i)) t ≡ Ok (there k (float_end label i v j))
variable_row_is k label v i j t h g =
    let read : variable_of k.tables t.text ≡ Ok j = ap (variable_of k.tables) g ∙ h in
    row_at k (float_variable label i) t mark.Plain _ (mark_plain t.text (variable_plain k.tables t.text j read))
    (ap (λ r. given t r (λ j. at k (float_end label i t.text j))) read ∙ ap (λ x. at k (float_end label i x j)) g)

-- ---- in $e, $a and $p

hypothesis_at : (k : Known) (b : Block) (label : Word) (e : List Symbol) (t : Token)
    → in_place k (in_hypothesis b label e) t mark.Plain ≡ next_symbol k e t (λ x. in_hypothesis b label x)
hypothesis_at k b label [] t = refl
hypothesis_at k b label (x ∷ e) t = refl

hypothesis_ends : (k : Known) (b : Block) (label : Word) (e : List Symbol) (t : Token) → e ≢ [] → t.text ≡ codes "$."
    → row (there k (in_hypothesis b label e)) t
    ≡ Ok (there (with_hypothesis_label k label) (at_start (inside (with_hypothesis b label e))))
hypothesis_ends k b label [] t n g = absurd (n refl)
hypothesis_ends k b label (x ∷ e) t n g = row_at k (in_hypothesis b label (x ∷ e)) t mark.End _ (ap mark_of g ∙ end_mark) refl

axiom_at : (k : Known) (s : Scope) (label : Word) (e : List Symbol) (t : Token)
    → in_place k (in_axiom s label e) t mark.Plain ≡ next_symbol k e t (λ x. in_axiom s label x)
axiom_at k s label [] t = refl
axiom_at k s label (x ∷ e) t = refl

axiom_ends : (k : Known) (s : Scope) (label : Word) (e : List Symbol) (t : Token) → e ≢ [] → t.text ≡ codes "$."
    → row (there k (in_axiom s label e)) t ≡ Ok (there (with_assertion k (axiom_of (block_of s) label e)) (behind s))
axiom_ends k s label [] t n g = absurd (n refl)
axiom_ends k s label (x ∷ e) t n g = row_at k (in_axiom s label (x ∷ e)) t mark.End _ (ap mark_of g ∙ end_mark) refl

theorem_at : (k : Known) (s : Scope) (label : Word) (e : List Symbol) (t : Token)
    → in_place k (in_theorem s label e) t mark.Plain ≡ next_symbol k e t (λ x. in_theorem s label x)
theorem_at k s label [] t = refl
theorem_at k s label (x ∷ e) t = refl

theorem_ends : (k : Known) (s : Scope) (label : Word) (e : List Symbol) (t : Token) → e ≢ [] → t.text ≡ codes "$="
    → row (there k (in_theorem s label e)) t ≡ Ok (there k (in_proof s label e []))
theorem_ends k s label [] t n g = absurd (n refl)
theorem_ends k s label (x ∷ e) t n g = row_at k (in_theorem s label (x ∷ e)) t mark.Proof _ (ap mark_of g ∙ proof_mark) refl

proof_ends : (k : Known) (s : Scope) (label : Word) (e : List Symbol) (steps : List Step) (t : Token) → steps ≢ [] → t.text ≡ codes "$."
    → row (there k (in_proof s label e steps)) t ≡ Ok (there (with_assertion k (theorem_of (block_of s) label e steps)) (behind s))
proof_ends k s label e [] t n g = absurd (n refl)
proof_ends k s label e (x ∷ steps) t n g = row_at k (in_proof s label e (x ∷ steps)) t mark.End _ (ap mark_of g ∙ end_mark) refl

-- ---- words of statements

pub regroup : (w : Word) (ws : List Word) (e : Word) (more : List Word) → (w ∷ (ws ++ e ∷ [])) ++ more ≡ w ∷ (ws ++ e ∷ more)
regroup w ws e more = ap (λ x. w ∷ x) (append_assoc ws (e ∷ []) more)

pub regroup_theorem : (w : Word) (ws ps more : List Word)
    → claim_spelling (proved w ws ps) ++ more ≡ w ∷ codes "$p" ∷ (ws ++ codes "$=" ∷ (ps ++ codes "$." ∷ more))
regroup_theorem w ws ps more =
    ap (λ x. w ∷ codes "$p" ∷ x)
    (append_assoc ws (codes "$=" ∷ (ps ++ codes "$." ∷ [])) more ∙ ap (λ x. ws ++ codes "$=" ∷ x) (append_assoc ps (codes "$." ∷ []) more))

pub regroup_block : (f c more : List Word)
    → (codes "${" ∷ (f ++ (c ++ codes "$}" ∷ []))) ++ more ≡ codes "${" ∷ (f ++ (c ++ codes "$}" ∷ more))
regroup_block f c more =
    ap (λ x. codes "${" ∷ x) (append_assoc f (c ++ codes "$}" ∷ []) more ∙ ap (λ x. f ++ x) (append_assoc c (codes "$}" ∷ []) more))

-- ---- walks over statements

module _ {A : Type 0} (l : Language Position A) (on : GoesOnInside l) where
  hypothesis_leads : (k : Known) (b : Block) (w : Word) (ws : List Word) (after : Known) (held : Block) (ts : List Token)
      (more : List Word) (final : Result Position TextFault) → Holds k b (hypothesis w ws) after held
      → words_of ts ≡ w ∷ codes "$e" ∷ (ws ++ codes "$." ∷ more)
      → ((rest : List Token) → words_of rest ≡ more → walk l (there after (at_start (inside held))) rest ≡ final)
      → walk l (there k (at_start (inside b))) ts ≡ final
  hypothesis_leads k b w ws after held ts more final d h next =
      let n = d.3 in
      keeps l (there k (at_start (inside b))) (λ t. there k (after_label (inside b) t)) w (codes "$e" ∷ (ws ++ codes "$." ∷ more)) ts
      final h (on k (at_start (inside b)) tt) (λ t g. label_row_is k (inside b) t w d.0 g)
      (λ label us el o.
      takes l (there k (after_label (inside b) label)) (there k (in_hypothesis b w [])) (codes "$e") (ws ++ codes "$." ∷ more) us final o
      (on k (after_label (inside b) label) tt) (λ t g. hypothesis_keyword_is k b label t w el d.1 g)
      (λ us1 o1.
      symbols_lead l on k (λ x. in_hypothesis b w x) (λ x. tt) (hypothesis_at k b w) (codes "$.")
      (λ x. there (with_hypothesis_label k w) (at_start (inside (with_hypothesis b w x)))) (hypothesis_ends k b w) [] ws n.0 us1 more final
      n.1 (inr d.2) o1
      (λ rest o2.
      ap (λ x. walk l (there x (at_start (inside (with_hypothesis b w n.0)))) rest) n.2
      ∙ ap (λ x. walk l (there after (at_start (inside x))) rest) n.3
      ∙ next rest o2)))

  piece_leads : (k : Known) (b : Block) (p : Piece) (after : Known) (held : Block) (ts : List Token) (more : List Word)
      (final : Result Position TextFault) → Holds k b p after held → words_of ts ≡ piece_spelling p ++ more
      → ((rest : List Token) → words_of rest ≡ more → walk l (there after (at_start (inside held))) rest ≡ final)
      → walk l (there k (at_start (inside b))) ts ≡ final
  piece_leads k b (distinct ws) after held ts more final d h next =
      takes l (there k (at_start (inside b))) (there k (in_distinct b [])) (codes "$d") (ws ++ codes "$." ∷ more) ts final
      (h ∙ regroup (codes "$d") ws (codes "$.") more) (on k (at_start (inside b)) tt)
      (λ t g. row_at k (at_start (inside b)) t mark.Disjoint _ (ap mark_of g ∙ disjoint_mark) refl)
      (λ us o. restricted_lead l on k b [] ws held us more final d.1 o (λ rest o1.
      ap (λ x. walk l (there x (at_start (inside held))) rest) d.0 ∙ next rest o1))
  piece_leads k b (hypothesis w ws) after held ts more final d h next =
      hypothesis_leads k b w ws after held ts more final d
      (h ∙ ap (λ x. w ∷ x) (regroup (codes "$e") ws (codes "$.") more)) next

  pieces_lead : (ps : List Piece) (k : Known) (b : Block) (after : Known) (held : Block) (ts : List Token) (more : List Word)
      (final : Result Position TextFault) → HoldAll k b ps after held → words_of ts ≡ flat_map piece_spelling ps ++ more
      → ((rest : List Token) → words_of rest ≡ more → walk l (there after (at_start (inside held))) rest ≡ final)
      → walk l (there k (at_start (inside b))) ts ≡ final
  pieces_lead [] k b after held ts more final d h next =
      ap (λ x. walk l (there x (at_start (inside b))) ts) d.0
      ∙ ap (λ x. walk l (there after (at_start (inside x))) ts) d.1
      ∙ next ts h
  pieces_lead (p ∷ ps) k b after held ts more final d h next =
      piece_leads k b p d.0 d.1 ts (flat_map piece_spelling ps ++ more) final d.2
      (h ∙ ap (λ x. x ++ more) (flat_map-cons piece_spelling p ps) ∙ append_assoc (piece_spelling p) (flat_map piece_spelling ps) more)
      (λ rest o. pieces_lead ps d.0 d.1 after held rest more final d.3 o next)

  axiom_leads : (k : Known) (s : Scope) → GoesOn l (there k (at_start s)) → (w : Word) (ws : List Word) (a : Assertion) (ts : List Token)
      (more : List Word) (final : Result Position TextFault) → Claims k (block_of s) (asserted w ws) a
      → words_of ts ≡ w ∷ codes "$a" ∷ (ws ++ codes "$." ∷ more)
      → ((rest : List Token) → words_of rest ≡ more → walk l (there (with_assertion k a) (behind s)) rest ≡ final)
      → walk l (there k (at_start s)) ts ≡ final
  axiom_leads k s start w ws a ts more final d h next =
      let n = d.3 in
      keeps l (there k (at_start s)) (λ t. there k (after_label s t)) w (codes "$a" ∷ (ws ++ codes "$." ∷ more)) ts final h
      start (λ t g. label_row_is k s t w d.0 g)
      (λ label us el o.
      takes l (there k (after_label s label)) (there k (in_axiom s w [])) (codes "$a") (ws ++ codes "$." ∷ more) us final o
      (on k (after_label s label) tt) (λ t g. axiom_keyword_is k s label t w el d.1 g)
      (λ us1 o1.
      symbols_lead l on k (λ x. in_axiom s w x) (λ x. tt) (axiom_at k s w) (codes "$.")
      (λ x. there (with_assertion k (axiom_of (block_of s) w x)) (behind s)) (axiom_ends k s w) [] ws n.0 us1 more final
      n.1 (inr d.2) o1
      (λ rest o2. ap (λ x. walk l (there (with_assertion k x) (behind s)) rest) n.2 ∙ next rest o2)))

  theorem_leads : (k : Known) (s : Scope) → GoesOn l (there k (at_start s)) → (w : Word) (ws ps : List Word) (a : Assertion)
      (ts : List Token) (more : List Word) (final : Result Position TextFault) → Claims k (block_of s) (proved w ws ps) a
      → words_of ts ≡ w ∷ codes "$p" ∷ (ws ++ codes "$=" ∷ (ps ++ codes "$." ∷ more))
      → ((rest : List Token) → words_of rest ≡ more → walk l (there (with_assertion k a) (behind s)) rest ≡ final)
      → walk l (there k (at_start s)) ts ≡ final
  theorem_leads k s start w ws ps a ts more final d h next =
      let n = d.4 in
      let behind_steps = ps ++ codes "$." ∷ more in
      keeps l (there k (at_start s)) (λ t. there k (after_label s t)) w (codes "$p" ∷ (ws ++ codes "$=" ∷ behind_steps)) ts final h
      start (λ t g. label_row_is k s t w d.0 g)
      (λ label us el o.
      takes l (there k (after_label s label)) (there k (in_theorem s w [])) (codes "$p") (ws ++ codes "$=" ∷ behind_steps) us final o
      (on k (after_label s label) tt) (λ t g. theorem_keyword_is k s label t w el d.1 g)
      (λ us1 o1.
      symbols_lead l on k (λ x. in_theorem s w x) (λ x. tt) (theorem_at k s w) (codes "$=")
      (λ x. there k (in_proof s w x [])) (theorem_ends k s w) [] ws n.0 us1 behind_steps final n.2 (inr d.2) o1
      (λ us2 o2.
      steps_lead l on k s w n.0 (λ x. there (with_assertion k (theorem_of (block_of s) w n.0 x)) (behind s)) (proof_ends k s w n.0)
      [] ps n.1 us2 more final n.3 (inr d.3) o2
      (λ rest o3. ap (λ x. walk l (there (with_assertion k x) (behind s)) rest) n.4 ∙ next rest o3))))

  claim_leads : (k : Known) (s : Scope) → GoesOn l (there k (at_start s)) → (c : Claim) (a : Assertion) (ts : List Token)
      (more : List Word) (final : Result Position TextFault) → Claims k (block_of s) c a → words_of ts ≡ claim_spelling c ++ more
      → ((rest : List Token) → words_of rest ≡ more → walk l (there (with_assertion k a) (behind s)) rest ≡ final)
      → walk l (there k (at_start s)) ts ≡ final
  claim_leads k s start (asserted w ws) a ts more final d h next =
      axiom_leads k s start w ws a ts more final d (h ∙ ap (λ x. w ∷ x) (regroup (codes "$a") ws (codes "$.") more)) next
  claim_leads k s start (proved w ws ps) a ts more final d h next =
      theorem_leads k s start w ws ps a ts more final d (h ∙ regroup_theorem w ws ps more) next

  -- label $f type variable $.
  float_leads : (k : Known) → GoesOn l (home k) → (w c v : Word) (after : Known) (ts : List Token) (more : List Word)
      (final : Result Position TextFault) → Declares k (float w c v) after → words_of ts ≡ w ∷ codes "$f" ∷ c ∷ v ∷ codes "$." ∷ more
      → ((rest : List Token) → words_of rest ≡ more → walk l (home after) rest ≡ final) → walk l (home k) ts ≡ final
  float_leads k start w c v after ts more final d h next =
      let n = d.3 in
      keeps l (home k) (λ t. there k (after_label outside t)) w (codes "$f" ∷ c ∷ v ∷ codes "$." ∷ more) ts final h
      start (λ t g. label_row_is k outside t w d.1 g)
      (λ label us el o.
      takes l (there k (after_label outside label)) (there k (float_type w)) (codes "$f") (c ∷ v ∷ codes "$." ∷ more) us final o
      (on k (after_label outside label) tt) (λ t g. float_keyword_is k label t w el d.0 d.2 g)
      (λ us1 o1.
      takes l (there k (float_type w)) (there k (float_variable w n.0)) c (v ∷ codes "$." ∷ more) us1 final o1
      (on k (float_type w) tt) (λ t g. type_row_is k w c n.0 t n.2 g)
      (λ us2 o2.
      takes l (there k (float_variable w n.0)) (there k (float_end w n.0 v n.1)) v (codes "$." ∷ more) us2 final o2
      (on k (float_variable w n.0) tt) (λ t g. variable_row_is k w v n.0 n.1 t n.3 g)
      (λ us3 o3.
      takes l (there k (float_end w n.0 v n.1)) (home (with_float k w n.0 n.1)) (codes "$.") more us3 final o3
      (on k (float_end w n.0 v n.1) tt)
      (λ t g. row_at k (float_end w n.0 v n.1) t mark.End _ (ap mark_of g ∙ end_mark) refl)
      (λ rest o4. ap (λ x. walk l (home x) rest) n.4 ∙ next rest o4)))))

  pub statement_leads : (k : Known) → GoesOn l (home k) → (s : Statement) (after : Known) (ts : List Token) (more : List Word)
      (final : Result Position TextFault) → Declares k s after → words_of ts ≡ spelling s ++ more
      → ((rest : List Token) → words_of rest ≡ more → walk l (home after) rest ≡ final) → walk l (home k) ts ≡ final
  statement_leads k start (constants ws) after ts more final d h next =
      takes l (home k) (there k (in_constants false)) (codes "$c") (ws ++ codes "$." ∷ more) ts final
      (h ∙ regroup (codes "$c") ws (codes "$.") more) start
      (λ t g. row_at k (at_start outside) t mark.Constants _ (ap mark_of g ∙ constants_mark)
      (cond-true (in_prelude k) (at k (in_constants false)) (fault t OutOfProfile) d.0))
      (λ us o. constants_lead l on k ws after false us more final d.2 (inr d.1) o next)
  statement_leads k start (variables ws) after ts more final d h next =
      takes l (home k) (there k (in_variables false)) (codes "$v") (ws ++ codes "$." ∷ more) ts final
      (h ∙ regroup (codes "$v") ws (codes "$.") more) start
      (λ t g. row_at k (at_start outside) t mark.Variables _ (ap mark_of g ∙ variables_mark)
      (cond-true (in_prelude k) (at k (in_variables false)) (fault t OutOfProfile) d.0))
      (λ us o. variables_lead l on k ws after false us more final d.2 (inr d.1) o next)
  statement_leads k start (float w c v) after ts more final d h next = float_leads k start w c v after ts more final d h next
  statement_leads k start (alone c) after ts more final d h next =
      claim_leads k outside start c d.0 ts more final d.1 h (λ rest o. ap (λ x. walk l (home x) rest) d.2 ∙ next rest o)
  statement_leads k start (block ps c) after ts more final d h next =
      let f = flat_map piece_spelling ps in
      let words = claim_spelling c in
      takes l (home k) (there k (at_start (inside no_block))) (codes "${") (f ++ (words ++ codes "$}" ∷ more)) ts final
      (h ∙ regroup_block f words more) start
      (λ t g. row_at k (at_start outside) t mark.Opening _ (ap mark_of g ∙ opening_mark) refl)
      (λ us o. pieces_lead ps k no_block d.0 d.1 us (words ++ codes "$}" ∷ more) final d.3 o
      (λ us1 o1. claim_leads d.0 (inside d.1) (on d.0 (at_start (inside d.1)) tt) c d.2 us1 (codes "$}" ∷ more) final d.4 o1
      (λ us2 o2.
      takes l (there (with_assertion d.0 d.2) at_close) (home (with_assertion d.0 d.2)) (codes "$}") more us2 final o2
      (on (with_assertion d.0 d.2) at_close tt)
      (λ t g. row_at (with_assertion d.0 d.2) at_close t mark.Closing _ (ap mark_of g ∙ closing_mark) refl)
      (λ rest o3. ap (λ x. walk l (home x) rest) d.5 ∙ next rest o3))))

  -- where the language goes on behind each statement, too
  pub statements_lead : ((k : Known) → GoesOn l (home k)) → (ss : List Statement) (k after : Known) (ts : List Token)
      → DeclareAll k ss after → words_of ts ≡ flat_map spelling ss → walk l (home k) ts ≡ Ok (home after)
  statements_lead start [] k after [] d h = walk_ends l (home k) ∙ ap (λ x. Ok (home x)) d
  statements_lead start [] k after (t ∷ ts) d h = absurd cc
  statements_lead start (s ∷ ss) k after ts d h =
      statement_leads k (start k) s d.0 ts (flat_map spelling ss) (Ok (home after)) d.1 (h ∙ flat_map-cons spelling s ss)
      (λ rest o. statements_lead start ss d.0 after rest d.2 o)
