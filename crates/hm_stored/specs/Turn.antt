-- How a call on a space is opened and closed.
use Rattle.std.specs.Prelude.{◌≡◌, ◌&&◌, ℕ, Bool, true, false, [], None}
use Rattle.hm_pages.specs.Calls.{IsBegun, IsKept as IsPagesKept, IsUndone}
use Rattle.hm_pages.specs.Store.{frame_of as pages_frame}
use Rattle.hm_header.specs.Range.{IsRoot}
use Rattle.hm_stored.specs.Heap.{Heap}

-- no call is open
pub record IsClosed (h : Heap) : Type 0 where
  pub begin : h.pages.begin ≡ None
  pub whole : h.whole ≡ true

-- A call was opened, over the tree from this root on and with this last id. What it tells is from here on told by what
-- there is now.
pub record IsOpened (root last : ℕ) (old new : Heap) : Type 0 where
  pub pages : IsBegun old.pages new.pages
  pub rest : new ≡ record old {
    pages = new.pages;
    begun = old.append;
    roots = record old.roots { current = root };
    last = last;
    log = [];
    gave = false;
  }

-- the open call may be kept: none of its changes failed half-way, and the root of its tree is one that a header may name
pub record IsKeepable (h : Heap) (root : ℕ) : Type 0 where
  pub whole : h.whole ≡ true
  pub root_is : IsRoot h.bigblocks root

-- the open call was closed, and what it changed stays
pub record IsKeptOf (old new : Heap) : Type 0 where
  pub pages : IsPagesKept old.pages new.pages
  pub rest : new ≡ record old { pages = new.pages }

-- the open call was closed, and its changes of pages and of append big-blocks were dropped
pub record IsDropped (old new : Heap) : Type 0 where
  pub pages : IsUndone old.pages new.pages
  pub rest : new ≡ record old { pages = new.pages; append = old.begun; whole = true }

-- A change of the open call ended: where it was done, all is as it was, and where it failed, each further one is refused.
abbrev pub IsEnded : Bool → Heap → Heap → Type 0
IsEnded done old new = new ≡ record old { whole = old.whole && done }

-- A look at a space left its pages in each state, and all else but what it keeps of which offsets changed.
pub record LooksSame (old new : Heap) : Type 0 where
  pub pages : pages_frame new.pages ≡ pages_frame old.pages
  pub current : new.pages.current ≡ old.pages.current
  pub rest : new ≡ record old { pages = new.pages }
