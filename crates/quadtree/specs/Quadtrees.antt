-- What a quadtree means, that it is lawful, how many blocks a triple lacks in it, and what a put does to the blocks of its pool. Assumes nothing.
use Rattle.std.specs.Prelude.{◌≡◌, ℕ, List, length, slice_index, Ok, Err, Option, Result, ◌≢◌}
use Rattle.std.proofs.Common.{ap, arith}
use Rattle.std.proofs.lemmas.Bool.{and_parts}
use Rattle.relation.specs.declared.answer.Grant.{Grant}
use Rattle.relation.specs.declared.answer.Grant.TheVariants.{New}
use Rattle.relation.specs.declared.answer.StoreFault.{StoreFault}
use Rattle.relation.specs.Meaning.{Meaning, Lawful}
use Rattle.graph.specs.declared.counts.RangeFault.{RangeFault}
use Rattle.graph.specs.declared.triple.Triple.{Triple}
use Rattle.graph.specs.Counts.{in_range?, Ranged, range_answer}
use Rattle.graph.specs.Graph.{at}
use Rattle.relation.proofs.Ranges.{range_places}
use Rattle.quadtree.specs.declared.block.Block.{Block}
use Rattle.quadtree.specs.declared.quadtree.Quadtree.{Quadtree}
use Rattle.quadtree.specs.Heights.{height_of}
use Rattle.quadtree.specs.Links.{lacking}
use Rattle.quadtree.specs.Pools.{links, Untouched}
use Rattle.quadtree.specs.Trees.{holding}
use Rattle.quadtree.specs.Monotone.{weight_mono}
use Rattle.quadtree.specs.Weights.{weight_of, quad_weight}

-- the lent blocks
abbrev pub blocks_of : Quadtree → List Block
blocks_of q = q.blocks.now

abbrev pub quad_meaning : Quadtree → Meaning
quad_meaning q =
    record {
      labels = q.counts.labels;
      nodes = q.counts.nodes;
      capacity = q.capacity;
      weight = quad_weight q.counts.labels q.counts.nodes;
      held = holding (links (blocks_of q)) q.roots q.counts.labels q.counts.nodes q.height;
    }

pub quad_lawful : (q : Quadtree) → Lawful (quad_meaning q)
quad_lawful q =
    record {
      few_labels = q.few.0;
      few_nodes = q.few.1;
      ranged = λ a u v held. range_places q.counts.labels q.counts.nodes a u v (and_parts (in_range? q.counts.labels q.counts.nodes a u v) _ held).0;
      monotone = weight_mono q.counts.labels q.counts.nodes (height_of q.counts.nodes);
      bounded =
          omega (
            arith,
            q.room.0,
            q.weighed,
            ap (λ h. weight_of q.counts.labels q.counts.nodes h (quad_meaning q).held) q.tall,
          );
    }

-- the triple is in range, and so many blocks are lacking for it
pub record Lacking (q : Quadtree) (t : Triple) (o : Option ℕ) : Type 0 where
  pub range : Ranged q.counts.labels q.counts.nodes t.label t.from t.to
  pub is : o ≡ lacking (links (blocks_of q)) (slice_index q.roots t.label) q.height t.from t.to

-- how many blocks are lacking for a triple that is not held, none for one that is, or what of it is out of range
abbrev pub Lacks : Quadtree → Triple → Result (Option ℕ) RangeFault → Type 0
Lacks q t (Ok o) = Lacking q t o
Lacks q t (Err fault) = at (range_answer q.counts.labels q.counts.nodes) t ≡ Err fault

-- what a put leaves of the blocks: as many as there were; those beyond the spent count as they were; and all of them, unless the triple was new
pub record BlocksAfter (before after : List Block) (spent : ℕ) (answer : Result Grant StoreFault) : Type 0 where
  pub long : length after ≡ length before
  pub beyond : Untouched before after spent
  pub unchanged : (answer ≢ Ok New) → after ≡ before
