-- Linked platforms by the order of their numbers.
use Rattle.std.specs.Prelude.{◌≡◌, List, length}
use Rattle.pt_pool.specs.LinkedPlatform.{LinkedPlatformView}
use Rattle.pt_workers.specs.Working.Orders.{count_up, numbers}
use Rattle.pt_workers.specs.LinkEnds.Settled.{AreByNumber}

-- linked platforms whose numbers are 0, 1 and so on, as a threaded run returns them, are in order
abbrev pub NumberedInOrder : Type 0
NumberedInOrder = (linked_platforms : List LinkedPlatformView) → numbers linked_platforms ≡ count_up (length linked_platforms) → AreByNumber linked_platforms
