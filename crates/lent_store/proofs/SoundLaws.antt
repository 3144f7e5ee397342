-- A file that was loaded keeps all rules of the format.
use Rattle.std.specs.Prelude.{ℕ, List}
use Rattle.size_class.specs.declared.TheConstants.{CLASSES}
use Rattle.reopen.specs.Loads.{IsLoadedFrom, unboxed}
use Rattle.reopen.specs.declared.state.BoxedLoaded.{BoxedLoaded}
use Rattle.lent_store.specs.Sound.{IsSoundFile}

pub sound_loaded : (file : List ℕ) (x : BoxedLoaded CLASSES) → IsLoadedFrom file (unboxed x) → IsSoundFile file
sound_loaded file x is = record { table = _; objects = _; book = _; opens = is.opens }
