-- Replacements one after another, beside other items, turned round, and under more rules.
-- Assumes nothing.
use Rattle.std.proofs.Common.{[], ◌++◌, sym, refl, ◌∙◌, append_assoc, append-nil}
use Rattle.graph.specs.declared.item.Item.TheVariants.{Forward}
use Rattle.graph.specs.Grammar.{String, Rule, Grammar, ◌∈◌, Extends, turned_item, turned, Replacement, Becomes, Becomes.stays, Becomes.replaced, Derives}
use Rattle.graph.proofs.Turning.{turned_item_label, turned_append, turned_around, turned_in_place}

module _ {R : Grammar} where
  pub chained : {s m t : String} → Becomes R s m → Becomes R m t → Becomes R s t
  chained stays e = e
  chained (replaced r d) e = replaced r (chained d e)

  -- a replacement beside other items
  put_before : (b s t : String) → Replacement R s t → Replacement R (b ++ s) (b ++ t)
  put_before b s t r = record {
    before = b ++ r.before;
    item = r.item;
    after = r.after;
    rule = r.rule;
    granted = r.granted;
    head = r.head;
    taken = rw (r.taken, append_assoc);
    put = rw (r.put, append_assoc);
  }

  put_after : (a s t : String) → Replacement R s t → Replacement R (s ++ a) (t ++ a)
  put_after a s t r = record {
    before = r.before;
    item = r.item;
    after = r.after ++ a;
    rule = r.rule;
    granted = r.granted;
    head = r.head;
    taken = rw (r.taken, append_assoc);
    put = simp (r.put, append_assoc);
  }

  becomes_before : (b : String) {s t : String} → Becomes R s t → Becomes R (b ++ s) (b ++ t)
  becomes_before b stays = stays
  becomes_before b (replaced {s = s} {m = m} r d) = replaced (put_before b s m r) (becomes_before b d)

  becomes_after : (a : String) {s t : String} → Becomes R s t → Becomes R (s ++ a) (t ++ a)
  becomes_after a stays = stays
  becomes_after a (replaced {s = s} {m = m} r d) = replaced (put_after a s m r) (becomes_after a d)

  -- two strings side by side
  pub beside : {s t s' t' : String} → Becomes R s t → Becomes R s' t' → Becomes R (s ++ s') (t ++ t')
  beside {s} {t} {s'} {t'} d e = chained (becomes_after s' d) (becomes_before t e)

  -- the turned string has the turned item, which is replaced by the same rule
  replacement_turned : (s t : String) → Replacement R s t → Replacement R (turned s) (turned t)
  replacement_turned s t r = record {
    before = turned r.after;
    item = turned_item r.item;
    after = turned r.before;
    rule = r.rule;
    granted = r.granted;
    head = r.head ∙ sym (turned_item_label r.item);
    taken = rw (r.taken, turned_around);
    put = simp (r.put, turned_append, turned_in_place, append_assoc);
  }

  pub becomes_turned : {s t : String} → Becomes R s t → Becomes R (turned s) (turned t)
  becomes_turned stays = stays
  becomes_turned (replaced {s = s} {m = m} r d) = replaced (replacement_turned s m r) (becomes_turned d)

  -- a head derives the items of its rule
  pub derives_items : (p : Rule) → p ∈ R → Derives R p.head p.items
  derives_items p i = replaced (record {
    before = [];
    item = Forward p.head;
    after = [];
    rule = p;
    granted = i;
    head = refl;
    taken = refl;
    put = sym (append-nil p.items);
  }) stays

-- a replacement by a rule that is granted is one where more rules are
pub more_becomes : {R R' : Grammar} → Extends R R' → {s t : String} → Becomes R s t → Becomes R' s t
more_becomes f stays = stays
more_becomes f (replaced r d) = replaced (record {
  before = r.before;
  item = r.item;
  after = r.after;
  rule = r.rule;
  granted = f r.rule r.granted;
  head = r.head;
  taken = r.taken;
  put = r.put;
}) (more_becomes f d)
