use Rattle.std.proofs.Common.{◌≡◌, ℕ, List, Result, sym, subst, rules}
use Rattle.relation.specs.declared.answer.Grant.{Grant}
use Rattle.relation.specs.declared.answer.StoreFault.{StoreFault}
use Rattle.relation.specs.Meaning.{Meaning, held_weight, put_answer, after_put}
use Rattle.quadtree.specs.declared.block.Block.{Block}
use Rattle.quadtree.specs.Quadtrees.{BlocksAfter}
use Rattle.quadtree.proofs.tests.lend_and_put.Goals as goal

-- what a put promises, said of the blocks that the quadtree was made over and that its lender gets back
told : {lent before after back : List Block} {made m m' : Meaning} {answer : Result Grant StoreFault} (a u v : ℕ) →
    before ≡ lent → back ≡ after → m ≡ made → m' ≡ after_put m a u v → answer ≡ put_answer m a u v →
    BlocksAfter before after (held_weight m') answer → BlocksAfter lent back (held_weight (after_put made a u v)) (put_answer made a u v)
told {lent} {before} {after} {back} {made} {m} {m'} {answer} a u v same again is puts answers blocks =
    subst (λ (m : Meaning). BlocksAfter lent back (held_weight (after_put m a u v)) (put_answer m a u v)) is
    (subst (λ (n : Meaning). BlocksAfter lent back (held_weight n) (put_answer m a u v)) puts
    (subst (λ (r : Result Grant StoreFault). BlocksAfter lent back (held_weight m') r) answers
    (subst (λ (b : List Block). BlocksAfter b back (held_weight m') answer) same
    (subst (λ (b : List Block). BlocksAfter before b (held_weight m') answer) (sym again) blocks))))

pub returns : goal.returns
returns c =
    told c.args.triple.label c.args.triple.from c.args.triple.to c.new-store.ensures.untouched (search rules) c.new-store.ensures.empty
    c.put.ensures.after c.put.ensures.answer c.put.ensures.blocks
