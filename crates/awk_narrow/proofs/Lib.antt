mod NarrowLaws
