-- A script whose parts are ranked, part by part.
use Rattle.std.proofs.Common.{◌≡◌, ◌∙◌, ℕ, Bool, List, [], ◌∷◌, ◌++◌, Option, Some, None, refl, sym, ap, subst}
use Rattle.std.specs.Prelude.{filter_map}
use Rattle.std.specs.List.{cons_option}
use Rattle.std.proofs.lemmas.List.{append_assoc, append-nil}
use Rattle.std.proofs.lemmas.List.Elements.{filter_map-append}
use Rattle.mmtext.specs.Text.{Token}
use Rattle.mmtext.specs.Views.{seen}
use Rattle.source.specs.Scopes.{Scope}
use Rattle.spreading.specs.Forms.{Part, AreParts, words_before_place, beginning_of}
use Rattle.expanding.specs.Ranking.{gap_of, gaps_of, ranked, ranked_part, crowded_behind, first_crowded, or_later, IsRanked, IsCrowded}
use Rattle.expanding.specs.Refusals.{IsUnranked}
use Rattle.expanding.specs.Views.{IsLaid, IsRanker, IsRankerOf, IsTooMany, with_gap, with_beginning}
use Rattle.expanding.specs.declared.laid.Laid.{Laid}
use Rattle.expanding.specs.declared.ranking.Ranker.{Ranker}
use Rattle.expanding.specs.declared.unranked.Unranked.{Unranked}
use Rattle.expanding.specs.declared.unranked.Unranked.TheVariants as reason

-- one more, if there is one
gaps_more : (E : List ℕ) (o : Option ℕ) → E ++ cons_option o [] ≡ with_gap E o
gaps_more E None = append-nil E
gaps_more E (Some gap) = refl

beginnings_more : (E : List ℕ) (o : Option ℕ) → with_beginning E o ≡ E ++ cons_option o []
beginnings_more E None = sym (append-nil E)
beginnings_more E (Some place) = refl

-- what the loop keeps, where these words are left: parts that they have are the last of all
pub record IsRanking (s : Scope) (flags : List Bool) (earlier : List ℕ) (ts rest : List Token) (l : Laid) (r : Ranker) : Type 0 where
  pub done : List Part
  pub out : List Token
  pub parts : (ps : List Part) → AreParts rest ps → AreParts ts (done ++ ps)
  pub laid : IsLaid out l
  pub ranked : (ps : List Part) → ranked s flags earlier (done ++ ps) ≡ out ++ ranked s flags (earlier ++ gaps_of s flags done) ps
  pub crowded : (ps : List Part)
      → first_crowded s flags earlier (done ++ ps) ≡ first_crowded s flags (earlier ++ gaps_of s flags done) ps
  pub beginnings : l.beginnings.items ≡ filter_map beginning_of done
  pub ranker : IsRankerOf s flags (earlier ++ gaps_of s flags done) r

module _ (s : Scope) (flags : List Bool) (earlier : List ℕ) (ts : List Token) where
  pub ranking_none : (l : Laid) (r : Ranker) → IsRankerOf s flags earlier r → IsLaid [] l → l.beginnings.items ≡ []
      → IsRanking s flags earlier ts ts l r
  ranking_none l r ready laid none =
      let same = sym (append-nil earlier) in
      record {
        done = [];
        out = [];
        parts = λ ps h. h;
        laid = laid;
        ranked = λ ps. ap (λ E. ranked s flags E ps) same;
        crowded = λ ps. ap (λ E. first_crowded s flags E ps) same;
        beginnings = none;
        ranker = subst (λ E. IsRankerOf s flags E r) same ready;
      }

  pub ranking_all : (l : Laid) (r : Ranker) → IsRanking s flags earlier ts [] l r
      → (out : List Token) × (gaps : List ℕ) × IsLaid out l × IsRanker flags (earlier ++ gaps) r
      × IsRanked s flags earlier ts out gaps l.beginnings.items
  ranking_all l r h = (
    h.out,
    gaps_of s flags h.done,
    h.laid,
    h.ranker.ranker,
    record {
      parts = h.done;
      are_parts = subst (AreParts ts) (append-nil h.done) (h.parts [] refl);
      none_crowded = sym (ap (first_crowded s flags earlier) (append-nil h.done)) ∙ h.crowded [];
      ranked = sym (append-nil h.out) ∙ (sym (h.ranked []) ∙ ap (ranked s flags earlier) (append-nil h.done));
      gaps_are = refl;
      beginnings_are = h.beginnings;
    },
  )

  module _ (rest p behind : List Token) (l : Laid) (r : Ranker) (h : IsRanking s flags earlier ts rest l r)
      (first : (ps : List Part) → AreParts behind ps → AreParts rest (p ∷ ps)) where
    abbrev pub before : List ℕ
    before = earlier ++ gaps_of s flags h.done

    abbrev too_many : Option Token
    too_many = crowded_behind s flags before p (words_before_place p)

    gaps_then : before ++ gaps_of s flags (p ∷ []) ≡ earlier ++ gaps_of s flags (h.done ++ p ∷ [])
    gaps_then =
        append_assoc earlier (gaps_of s flags h.done) (gaps_of s flags (p ∷ []))
        ∙ ap (λ gs. earlier ++ gs) (sym (filter_map-append (gap_of s flags) h.done (p ∷ [])))

    one_more : (ps : List Part) → first_crowded s flags earlier (h.done ++ p ∷ ps)
        ≡ or_later too_many (first_crowded s flags (before ++ gaps_of s flags (p ∷ [])) ps)
    one_more ps = h.crowded (p ∷ ps)

    pub ranking_more : (l' : Laid) (r' : Ranker) → too_many ≡ None
        → ((us : List Token) → IsLaid us l → IsLaid (us ++ ranked_part s flags before p) l')
        → l'.beginnings.items ≡ with_beginning l.beginnings.items (beginning_of p)
        → IsRankerOf s flags (with_gap before (gap_of s flags p)) r' → IsRanking s flags earlier ts behind l' r'
    ranking_more l' r' fits laid begins ready = record {
      done = h.done ++ p ∷ [];
      out = h.out ++ ranked_part s flags before p;
      parts = λ ps parts. subst (AreParts ts) (sym (append_assoc h.done (p ∷ []) ps)) (h.parts (p ∷ ps) (first ps parts));
      laid = laid h.out h.laid;
      ranked = λ ps.
          ap (ranked s flags earlier) (append_assoc h.done (p ∷ []) ps)
          ∙ (h.ranked (p ∷ ps)
          ∙ (sym (append_assoc h.out (ranked_part s flags before p) (ranked s flags (before ++ gaps_of s flags (p ∷ [])) ps))
          ∙ ap (λ E. (h.out ++ ranked_part s flags before p) ++ ranked s flags E ps) gaps_then));
      crowded = λ ps.
          ap (first_crowded s flags earlier) (append_assoc h.done (p ∷ []) ps)
          ∙ (one_more ps
          ∙ (ap (λ o. or_later o (first_crowded s flags (before ++ gaps_of s flags (p ∷ [])) ps)) fits
          ∙ ap (λ E. first_crowded s flags E ps) gaps_then));
      beginnings =
          begins
          ∙ (beginnings_more l.beginnings.items (beginning_of p)
          ∙ (ap (λ ns. ns ++ cons_option (beginning_of p) []) h.beginnings
          ∙ sym (filter_map-append beginning_of h.done (p ∷ []))));
      ranker =
          subst (λ E. IsRankerOf s flags E r') (sym (gaps_more before (gap_of s flags p)) ∙ gaps_then) ready;
    }

    stops : (ps : List Part) → AreParts behind ps → (t : Token) → too_many ≡ Some t → IsCrowded s flags earlier ts t
    stops ps parts t is = record {
      parts = h.done ++ p ∷ ps;
      are_parts = h.parts (p ∷ ps) (first ps parts);
      first = one_more ps ∙ ap (λ o. or_later o (first_crowded s flags (before ++ gaps_of s flags (p ∷ [])) ps)) is;
    }

    pub unranked : (ps : List Part) → AreParts behind ps → (m : Unranked) → IsTooMany too_many m → IsUnranked s flags earlier ts m
    unranked ps parts (reason.Crowded t) is = stops ps parts (seen t) is
    unranked ps parts reason.NoMemory is = tt
