use Rattle.std.proofs.Common.{sym, ◌∙◌}
use Rattle.quadtree.proofs.Stored.{held_fits, fits_is}
use Rattle.quadtree.proofs.quadtree.store.QuadtreeStore.fits.Goals as goal

pub returns-in-Ok-Some : goal.returns-in-Ok-Some
returns-in-Ok-Some c = c.has_room.ensures ∙ sym (fits_is c.in-Ok-Some.ensures c.in-Ok-Some.field-0-is)

pub returns-in-Ok-None : goal.returns-in-Ok-None
returns-in-Ok-None c = sym (held_fits c.in-Ok-None.ensures c.in-Ok-None.field-0-is)
