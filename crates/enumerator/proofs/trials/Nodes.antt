-- The test of two nodes decides equality.
use Rattle.std.proofs.Common.{◌≡◌, refl}
