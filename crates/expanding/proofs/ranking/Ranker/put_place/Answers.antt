-- What is left to show of `put_place`.
use Rattle.std.proofs.Common.{◌∙◌, ◌++◌, ◌∷◌, [], List, map, drop, get_or, sym, ap, subst}
use Rattle.std.specs.Fmt.{decimal}
use Rattle.std.proofs.lemmas.List.{append_assoc, take_rest}
use Rattle.mmtext.specs.Text.{Token}
use Rattle.mmtext.specs.Views.{seen}
use Rattle.mmtext.specs.declared.token.Token.{Token as CodeToken}
use Rattle.expanding.specs.Ranking.{gap_of_place}
use Rattle.spreading.specs.Words.{word_at}
use Rattle.expanding.specs.Views.{IsLaid, IsRankerOf, with_gap}
use Rattle.expanding.proofs.Placing.{two_words, none_there, too_many, ranked_none, crowded_none, crowded_full, crowded_room, ranked_there, gap_most}
use Rattle.expanding.proofs.ranking.Ranker.put_place.Goals as goal

abbrev none : CodeToken
none = record { place = 0; text = record { ref_ptr = (0, 0); now = [] } }

abbrev how_of : List CodeToken → Token
how_of words = seen (get_or words 0 none)

abbrev label_of : List CodeToken → Token
label_of words = seen (get_or words 1 none)

pub returns-in_default-gap_of-clause-laid : goal.returns-in_default-gap_of-clause-laid
returns-in_default-gap_of-clause-laid g c = λ flags earlier ready us h.
    let s = g.D.Declared.scope c.args.declared.now in
    let words = c.args.words.now in
    let are = ap (map seen) (two_words words none none c.in-len2-up.len_at_least) in
    let no_gap = ap (gap_of_place s flags) are ∙ (sym (c.gap_of.ensures flags earlier ready)
    ∙ none_there c.gap_of.result c.in_default-gap_of.not-Some) in
    subst (λ ws. IsLaid (us ++ ws) c.put_words-in_default-gap_of.new.self) (sym (ranked_none s flags earlier (map seen words) no_gap))
    (c.in_ok-put_words-2.ensures.laid us h)

pub returns-in_default-gap_of-clause-uncrowded : goal.returns-in_default-gap_of-clause-uncrowded
returns-in_default-gap_of-clause-uncrowded g c = λ flags earlier ready.
    let s = g.D.Declared.scope c.args.declared.now in
    let words = c.args.words.now in
    let are = ap (map seen) (two_words words none none c.in-len2-up.len_at_least) in
    let no_gap = ap (gap_of_place s flags) are ∙ (sym (c.gap_of.ensures flags earlier ready)
    ∙ none_there c.gap_of.result c.in_default-gap_of.not-Some) in
    crowded_none s flags earlier (map seen words) no_gap

pub returns-in_default-gap_of-clause-ranker : goal.returns-in_default-gap_of-clause-ranker
returns-in_default-gap_of-clause-ranker g c = λ flags earlier ready.
    let s = g.D.Declared.scope c.args.declared.now in
    let words = c.args.words.now in
    let are = ap (map seen) (two_words words none none c.in-len2-up.len_at_least) in
    let no_gap = ap (gap_of_place s flags) are ∙ (sym (c.gap_of.ensures flags earlier ready)
    ∙ none_there c.gap_of.result c.in_default-gap_of.not-Some) in
    subst (λ o. IsRankerOf s flags (with_gap earlier o) c.args.self.now) (sym no_gap) ready

pub returns-in_default-rank_at-clause-crowded : goal.returns-in_default-rank_at-clause-crowded
returns-in_default-rank_at-clause-crowded g c = λ flags earlier ready.
    let s = g.D.Declared.scope c.args.declared.now in
    let words = c.args.words.now in
    let how = how_of words in
    let label = label_of words in
    let rest = map seen (drop 2 words) in
    let are = ap (map seen) (two_words words none none c.in-len2-up.len_at_least) in
    let here = sym (c.gap_of.ensures flags earlier ready) ∙ c.in-Some.is in
    let is = ap (gap_of_place s flags) are ∙ here in
    let most = gap_most s flags how label [] c.in-Some.gap here in
    crowded_full s flags earlier (map seen words) how label rest c.in-Some.gap are is
    (too_many flags earlier c.in-Some.gap c.rank_at.new.self c.rank_at.result c.in_default-rank_at.not-Some
    (c.rank_at.ensures flags earlier ready.ranker most))

pub returns-clause-laid : goal.returns-clause-laid
returns-clause-laid g c = λ flags earlier ready us h.
    let s = g.D.Declared.scope c.args.declared.now in
    let words = c.args.words.now in
    let how = how_of words in
    let label = label_of words in
    let rest = map seen (drop 2 words) in
    let are = ap (map seen) (two_words words none none c.in-len2-up.len_at_least) in
    let here = sym (c.gap_of.ensures flags earlier ready) ∙ c.in-Some.is in
    let is = ap (gap_of_place s flags) are ∙ here in
    let most = gap_most s flags how label [] c.in-Some.gap here in
    let given = c.in-Some-rank_at.ensures flags earlier ready.ranker most in
    let there = ranked_there s flags earlier (map seen words) how label rest c.in-Some.gap are is in
    let word = word_at how.place (decimal c.in-Some-rank_at.rank) in
    let same = ap (map seen) (take_rest words 2) in
    subst (λ ws. IsLaid ws c.put_words-2.new.self)
    (append_assoc us (word ∷ []) _
    ∙ (ap (λ ws. us ++ word ∷ ws) same
    ∙ (ap (λ n. us ++ word_at how.place (decimal n) ∷ rest) given.0 ∙ ap (λ ws. us ++ ws) (sym there))))
    (c.in_ok-put_words-3.ensures.laid (us ++ word ∷ []) (c.in_ok-put_rank.ensures.laid us h))

pub returns-clause-uncrowded : goal.returns-clause-uncrowded
returns-clause-uncrowded g c = λ flags earlier ready.
    let s = g.D.Declared.scope c.args.declared.now in
    let words = c.args.words.now in
    let how = how_of words in
    let label = label_of words in
    let rest = map seen (drop 2 words) in
    let are = ap (map seen) (two_words words none none c.in-len2-up.len_at_least) in
    let here = sym (c.gap_of.ensures flags earlier ready) ∙ c.in-Some.is in
    let is = ap (gap_of_place s flags) are ∙ here in
    let most = gap_most s flags how label [] c.in-Some.gap here in
    crowded_room s flags earlier (map seen words) how label rest c.in-Some.gap are is
    (c.in-Some-rank_at.ensures flags earlier ready.ranker most).1

pub returns-clause-ranker : goal.returns-clause-ranker
returns-clause-ranker g c = λ flags earlier ready.
    let s = g.D.Declared.scope c.args.declared.now in
    let words = c.args.words.now in
    let are = ap (map seen) (two_words words none none c.in-len2-up.len_at_least) in
    let here = sym (c.gap_of.ensures flags earlier ready) ∙ c.in-Some.is in
    let is = ap (gap_of_place s flags) are ∙ here in
    let most = gap_most s flags (how_of words) (label_of words) [] c.in-Some.gap here in
    subst (λ o. IsRankerOf s flags (with_gap earlier o) c.rank_at.new.self) (sym is)
    (record { ranker = (c.in-Some-rank_at.ensures flags earlier ready.ranker most).2; each = ready.each })
