-- What each answer of a survey means.
use Rattle.std.specs.Prelude.{List}
use Rattle.pt_workers.specs.declared.work.ended.Survey.{Survey}
use Rattle.pt_workers.specs.declared.work.ended.Survey.TheVariants.{Going, Over, Failed, Marked}
use Rattle.pt_pool.specs.LinkedPlatform.{LinkedPlatformView}
use Rattle.pt_workers.specs.Working.Orders.{AllDone, AreUnmarked, HasFailed}

abbrev pub Surveyed : Survey → List LinkedPlatformView → Type 0
Surveyed Going xs = Unit {0}
Surveyed Over xs = AreUnmarked xs × AllDone xs
Surveyed (Failed n) xs = AreUnmarked xs × HasFailed xs n
Surveyed Marked xs = Unit {0}
