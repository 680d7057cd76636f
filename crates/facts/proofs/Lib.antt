mod Made
mod PlaceLaws
mod Sent
