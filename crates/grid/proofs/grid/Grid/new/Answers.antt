-- A fit clears the words that it needs.
-- Assumes nothing.
use Rattle.std.proofs.Common.{sym, ◌∙◌}
use Rattle.grid.proofs.Clears.{made_filled}
use Rattle.grid.proofs.grid.Grid.new.Goals as goal

pub invariant_of-result-2 : goal.invariant_of-result-2
invariant_of-result-2 c =
    let m = made_filled c.args.counts.labels c.args.counts.nodes c.args.words.now (sym c.fit.ensures ∙ c.in-Ok.is) c.words_for.ensures (c.fill.ensures.after (λ y e. e)) in
    record { few = m.few; room = m.room; counted = m.counted }

pub returns-clause-means : goal.returns-clause-means
returns-clause-means c =
    let m = made_filled c.args.counts.labels c.args.counts.nodes c.args.words.now (sym c.fit.ensures ∙ c.in-Ok.is) c.words_for.ensures (c.fill.ensures.after (λ y e. e)) in
    m.means
